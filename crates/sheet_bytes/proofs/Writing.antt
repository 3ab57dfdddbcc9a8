-- Writing the joined runs one by one: what is written so far, before the runs still to come, is the whole.
use Rattle.std.specs.Prelude.{Some, None, if◌then◌else◌}
use mathlib.Core.Path.{◌≡◌, refl}
use mathlib.Core.Bool.{Bool, true, false}
use mathlib.Core.List.{List, [], ◌∷◌, append-nil}
use Prim.Native.Nat.{ℕ, ◌+◌, ◌-◌, ◌*◌, ◌^◌, ◌<◌, ◌≤◌}
use native.Mathlib.Omega.{arith}
use lib.ListN.{length}
use lib.Seq.{length-sets}
use Rattle.base.specs.Overlay.{Wrote}
use Rattle.base.proofs.Overlay.{wrote_none, wrote_then}
use Rattle.varint.specs.Groups.{encode}
use Rattle.entry.specs.declared.PagingMode.{PagingMode}
use Rattle.entry.specs.declared.PagingMode.TheVariants.{FourLevel, Plain, Pae}
use Rattle.sheet.specs.Sheet.{mode_number, place_of, end_of}
use Rattle.sheet.specs.declared.Header.{Header}
use Rattle.sheet.specs.declared.Run.{Run}
use Rattle.sheet.proofs.OneRun.{Follows}
use Rattle.sheet_limits.specs.Write.{runs_of, in_order, touches, as_one, joined_before, joined_runs, edition_of, mode_bytes, header_bytes, run_bytes, runs_bytes, sheet_bytes}
use Rattle.sheet_limits.specs.Inner.{Given}
use Rattle.joined_runs.specs.Inner.{given_run, joined_run}
use Rattle.joined_runs.proofs.Joining.{touching, apart, one_end, in_order_lem, joined_most}
use Rattle.joined_runs.proofs.GivenRuns.{First, runs_length, runs_over}
use Rattle.joined_runs.proofs.Counting.{do_touch, are_apart}
use Rattle.sheet_bytes.specs.Inner.{Ready, Room, written_for, end_after, last_after, RunTaken}
use Rattle.sheet_bytes.specs.declared.RunWriter.{RunWriter}
use Rattle.sheet_bytes.proofs.Lengths.{run_length}

pub wrote_header : (h : Header) {o o₁ o₂ o₃ o₄ : List ℕ} {a b c r : ℕ}
    → Wrote o 0 (encode (edition_of h.space.mode)) a o₁
    → Wrote o₁ a (encode h.space.directory.0) b o₂
    → Wrote o₂ b (mode_bytes h.space.mode) c o₃
    → Wrote o₃ c (encode h.count) r o₄
    → Wrote o 0 (header_bytes h) r o₄
unfolding header_bytes
wrote_header h p q m s = wrote_then p (wrote_then q (wrote_then m s))

pub wrote_mode : (m : PagingMode) → (m ≡ FourLevel → ⊥) → {o o₁ o₂ : List ℕ} {at a r : ℕ}
    → Wrote o at (encode (mode_number m)) a o₁ → Wrote o₁ a (encode (place_of m)) r o₂ → Wrote o at (mode_bytes m) r o₂
wrote_mode FourLevel h p q = absurd (h refl)
wrote_mode Plain h p q = wrote_then p q
wrote_mode (Pae place) h p q = wrote_then p q

pub wrote_run : (end : ℕ) (run : Run) {o o₁ o₂ : List ℕ} {at a r : ℕ}
    → Wrote o at (encode (run.first.0 - end)) a o₁ → Wrote o₁ a (encode run.pages) r o₂ → Wrote o at (run_bytes end run) r o₂
unfolding run_bytes
wrote_run end run p q = wrote_then p q

-- ---- one run more

module _ (w : RunWriter) (r : Run) where
  pub took_touching : (w' : RunWriter) → w'.at ≡ w.at → w'.end ≡ w.end → Some w'.last.run ≡ joined_run w.last.run r → (o : List ℕ) → RunTaken o w r o w'
  unfolding written_for end_after last_after
  took_touching w' a e j o =
      let t = do_touch w.last.run r w'.last.run j in
      record { bytes = rw (t.0, a) (wrote_none o w.at); end = rw t.0 e; last = rw t.0 t.1 }

  pub took_apart : None ≡ joined_run w.last.run r → {o o' : List ℕ} {at : ℕ} → Wrote o w.at (run_bytes w.end w.last.run) at o'
      → (w' : RunWriter) → w'.at ≡ at → w'.end ≡ end_of w.last.run → w'.last.run ≡ r → RunTaken o w r o' w'
  unfolding written_for end_after last_after
  took_apart j p w' a e l = let t = are_apart w.last.run r j in record { bytes = rw (t, a) p; end = rw t e; last = rw t l }

module _ {o o' : List ℕ} {w w' : RunWriter} {r : Run} (p : RunTaken o w r o' w') where
  -- a run takes 12 bytes at most
  taken_near : w'.at ≤ w.at + 12
  unfolding written_for
  taken_near = omega (arith, p.bytes.place, go (touches w.last.run r))
    where
      go : (b : Bool) → length (if b then [] else run_bytes w.end w.last.run) ≤ 12
      go true = omega arith
      go false = run_length w.end w.last.run

  taken_gap : w.end ≤ w.last.run.first.0 → Follows 0 (end_of w.last.run) r → w'.end ≤ w'.last.run.first.0
  unfolding end_after last_after
  taken_gap h f = rw (p.end, p.last) (go (touches w.last.run r))
    where
      go : (b : Bool) → (if b then w.end else end_of w.last.run) ≤ (if b then as_one w.last.run r else r).first.0
      go true = h
      go false = omega (arith, f.apart)

  taken_end : end_of w'.last.run ≡ end_of r
  unfolding last_after
  taken_end = rw p.last (go (touches w.last.run r) refl)
    where
      go : (b : Bool) → touches w.last.run r ≡ b → end_of (if b then as_one w.last.run r else r) ≡ end_of r
      go true h = one_end w.last.run r h
      go false h = refl

  -- what is still to be written after this run
  taken_rest : (rs : List Run) {n : ℕ} {o'' : List ℕ} → Wrote o' w'.at (runs_bytes w'.end (joined_before w'.last.run (joined_runs rs))) n o''
      → Wrote o w.at (runs_bytes w.end (joined_before w.last.run (joined_runs (r ∷ rs)))) n o''
  unfolding written_for end_after last_after
  taken_rest rs {n} {o''} q = go (touches w.last.run r) refl p.bytes (rw (p.end, p.last) at q)
    where
      go : (b : Bool) → touches w.last.run r ≡ b
          → Wrote o w.at (if b then [] else run_bytes w.end w.last.run) w'.at o'
          → Wrote o' w'.at (runs_bytes (if b then w.end else end_of w.last.run) (joined_before (if b then as_one w.last.run r else r) (joined_runs rs))) n o''
          → Wrote o w.at (runs_bytes w.end (joined_before w.last.run (joined_runs (r ∷ rs)))) n o''
      go true h x y = rw (touching w.last.run r (joined_runs rs) h) (wrote_then x y)
      go false h x y = rw (apart w.last.run r (joined_runs rs) h) (wrote_then x y)

-- ---- all runs

pub record Writing (all : List Run) (from : ℕ) (old out : List ℕ) (w : RunWriter) (ss ls : List ℕ) : Type 0 where
  pub near : w.at + 12 * length ss ≤ from + 12000
  pub gap : w.end ≤ w.last.run.first.0
  pub alike : length ss ≡ length ls
  pub order : in_order (end_of w.last.run) (runs_of ss ls) ≡ true
  pub long : length out ≡ length old
  pub rest : (n : ℕ) (o : List ℕ)
      → Wrote out w.at (runs_bytes w.end (joined_before w.last.run (joined_runs (runs_of ss ls)))) n o
      → Wrote old from (runs_bytes 0 (joined_runs all)) n o

module _ {ss ls : List ℕ} {s l : ℕ} {ss' ls' : List ℕ} (f : First ss ls s l ss' ls') (h : in_order 0 (runs_of ss ls) ≡ true) where
  first_follows : Follows 0 0 (given_run s l) × (in_order (end_of (given_run s l)) (runs_of ss' ls') ≡ true)
  first_follows = in_order_lem 0 (given_run s l) (runs_of ss' ls') (rw f.runs at h)

  pub first_top : s + l ≤ 2 ^ 36
  first_top = first_follows.0.top

  pub writing_first : (from : ℕ) (old : List ℕ) (w : RunWriter) → w.at ≡ from → w.end ≡ 0 → w.last.run ≡ given_run s l → Writing (runs_of ss ls) from old old w ss' ls'
  writing_first from old w a e r = record {
    near = omega (arith, f.few, a);
    gap = omega (arith, e);
    alike = f.alike;
    order = rw r first_follows.1;
    long = refl;
    rest = λ n o p. rw f.runs (rw (a, e, r) at p);
  }

module _ {all : List Run} {from : ℕ} {old out : List ℕ} {w : RunWriter} where
  pub writing_room : {ss ls : List ℕ} → Writing all from old out w ss ls → from < 2 ^ 61 → Room w
  writing_room q f = record { place = omega (arith, q.near); gap = q.gap }

  module _ {s l : ℕ} {ss ls : List ℕ} (q : Writing all from old out w (s ∷ ss) (l ∷ ls)) where
    next_follows : Follows 0 (end_of w.last.run) (given_run s l) × (in_order (end_of (given_run s l)) (runs_of ss ls) ≡ true)
    next_follows = in_order_lem (end_of w.last.run) (given_run s l) (runs_of ss ls) q.order

    pub next_top : s + l ≤ 2 ^ 36
    next_top = next_follows.0.top

    pub writing_next : {o' : List ℕ} {w' : RunWriter} → RunTaken out w (given_run s l) o' w' → Writing all from old o' w' ss ls
    writing_next {o'} {w'} p = record {
      near = omega (arith, q.near, taken_near p);
      gap = taken_gap p q.gap next_follows.0;
      alike = omega (arith, q.alike);
      order = rw (taken_end p) next_follows.1;
      long = rw (p.bytes.bytes, length-sets) q.long;
      rest = λ n o x. q.rest n o (taken_rest p (runs_of ss ls) x);
    }

  pub all_written : {ss ls : List ℕ} → Writing all from old out w ss ls → length ss ≡ 0 → {n : ℕ} {o : List ℕ}
      → Wrote out w.at (run_bytes w.end w.last.run) n o → Wrote old from (runs_bytes 0 (joined_runs all)) n o
  unfolding joined_before
  all_written {ss} {ls} q none {n} {o} p = q.rest n o (rw (runs_over ss ls none, append-nil) p)

pub wrote_sheet : (h : Header) (runs : List Run) {o o₁ o₂ : List ℕ} {at r : ℕ}
    → h.count ≡ length runs → Wrote o 0 (header_bytes h) at o₁ → Wrote o₁ at (runs_bytes 0 runs) r o₂ → Wrote o 0 (sheet_bytes (record { space = h.space; runs = runs })) r o₂
unfolding sheet_bytes
wrote_sheet h runs e p q = wrote_then (rw e at p) q

pub count_most : {h : Header} {ss ls : List ℕ} → Ready h ss ls → Given ss ls → h.count ≤ 1000
count_most {h} {ss} {ls} q g = omega (arith, q.count, joined_most (runs_of ss ls), runs_length ss ls g.alike, g.most)
