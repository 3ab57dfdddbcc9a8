-- The call's promise, of any input: from the equation follow that what is written reads back, and that an accepted sheet is written again.
use Rattle.std.specs.Prelude.{if◌then◌else◌}
use mathlib.Core.Path.{◌≡◌, refl, sym, ap, ◌∙◌}
use mathlib.Core.Bool.{Bool, true, false, not}
use mathlib.Core.List.{List, [], ◌∷◌}
use Prim.Native.Nat.{ℕ, suc, ◌+◌, ◌*◌, ◌%◌, ◌^◌, ◌≤◌}
use native.Mathlib.Omega.{arith}
use lib.ListN.{length, take, drop}
use lib.Seq.{sets, sets-eq, take_at}
use lib.Dec.{leb}
use borrow.Author.Tests.{lt-ltb, le-ltb, le-leb}
use Rattle.base.specs.Refusal.{refusal_number}
use Rattle.base.specs.Written.{WriteOutcome, unwritten, written}
use Rattle.base.specs.declared.Refusal.{Refusal}
use Rattle.base.specs.declared.Refusal.TheVariants.{OutOfLimits, BadRun, SheetBufferShort}
use Rattle.base.specs.declared.Written.{Written}
use Rattle.base.proofs.Test.{Test, test, below, above, both_true}
use Rattle.varint.specs.Reader.{got}
use Rattle.varint.proofs.Forms.{Bytes}
use Rattle.sheet.specs.Sheet.{mode_number, place_of, is_place, run_pages, Sheet, sheet_of}
use Rattle.sheet.specs.declared.Run.{Run}
use Rattle.sheet.proofs.Modes.{mode_again, mode_most, place_again, in_page_lem}
use Rattle.sheet.proofs.AcceptedCase.{Chain}
use Rattle.sheet_limits.specs.Write.{all_below, is_mode, in_limits, runs_of, starts_of, lengths_of, in_order, sound_runs, sheet_bytes}
use Rattle.sheet_limits.proofs.Limits.{but_lengths, in_mode, limits}
use Rattle.joined_runs.proofs.Joining.{joined_chain, joined_most, joined_some, chain_order, chain_joined}
use Rattle.joined_runs.proofs.GivenRuns.{runs_length}
use Rattle.sheet_writer.specs.Call.{given_sheet, sheet_outcome, write_sheet, AreBytes, WriteAnswer}
use Rattle.sheet_writer.proofs.ReadBack.{Keeps, sheet_reads, sheet_form}

-- ---- the runs of an accepted sheet, given again

runs_again : (rs : List Run) → runs_of (starts_of rs) (lengths_of rs) ≡ rs
runs_again [] = refl
runs_again (r ∷ rs) = ap (λ (qs : List Run). r ∷ qs) (runs_again rs)

starts_length : (rs : List Run) → length (starts_of rs) ≡ length rs
starts_length [] = refl
starts_length (r ∷ rs) = ap suc (starts_length rs)

lengths_length : (rs : List Run) → length (lengths_of rs) ≡ length rs
lengths_length [] = refl
lengths_length (r ∷ rs) = ap suc (lengths_length rs)

starts_below : (least end : ℕ) (rs : List Run) → Chain least end rs → all_below (starts_of rs) ≡ true
starts_below least end [] c = refl
starts_below least end (r ∷ rs) c = rw (lt-ltb r.first.0 (2 ^ 36) (omega (arith, c.0.some, c.0.top))) (starts_below 1 _ rs c.1)

to_bytes : (s : List ℕ) → AreBytes s → Bytes s
to_bytes [] h = tt
to_bytes (x ∷ s) h = (h 0, to_bytes s (λ k. h (suc k)))

module _ (s : Sheet) (k : Keeps s) where
  again_limits : in_limits s.space.directory.0 (mode_number s.space.mode) (place_of s.space.mode) (starts_of s.runs) (lengths_of s.runs) ≡ true
  again_limits =
      let n = starts_length s.runs in
      let alike = n ∙ sym (lengths_length s.runs) in
      let mode : is_mode (mode_number s.space.mode) (place_of s.space.mode) ≡ true = rw (le-leb (mode_number s.space.mode) 2 (mode_most s.space.mode)) (place_again s.space.mode k.place) in
      let below = starts_below 0 0 s.runs k.chain in
      sym (but_lengths s.space.directory.0 (mode_number s.space.mode) (place_of s.space.mode) (starts_of s.runs) (lengths_of s.runs) alike (omega (arith, n, k.some)) (omega (arith, n, k.most)) k.directory mode below) ∙ k.lengths

  again_sound : sound_runs s.runs ≡ true
  again_sound = rw (chain_order 0 0 s.runs k.chain, chain_joined 0 0 s.runs k.chain) k.lengths

  again : (old : List ℕ) → length (sheet_bytes s) ≤ length old → write_sheet s.space.directory.0 (mode_number s.space.mode) (place_of s.space.mode) (starts_of s.runs) (lengths_of s.runs) old ≡ written old (sheet_bytes s)
  unfolding write_sheet
  again old h = rw (again_limits, mode_again s.space.mode, runs_again s.runs, again_sound, chain_joined 0 0 s.runs k.chain, le-ltb (length old) (length (sheet_bytes s)) h)

-- ---- the promise

module _ (directory mode place : ℕ) (starts lengths : List ℕ) where
  given_keeps : in_limits directory mode place starts lengths ≡ true → sound_runs (runs_of starts lengths) ≡ true → Keeps (given_sheet directory mode place starts lengths)
  given_keeps h k =
      let p = limits directory mode place starts lengths h in
      let q = both_true (in_order 0 (runs_of starts lengths)) _ k in
      let n = runs_length starts lengths p.1.alike in
      record {
        directory = p.0;
        place = in_page_lem mode place (both_true (leb mode 2) (is_place mode place) (in_mode directory mode place starts lengths h)).1;
        some = joined_some (runs_of starts lengths) (omega (arith, n, p.1.some));
        most = omega (arith, n, joined_most (runs_of starts lengths), p.1.most);
        chain = joined_chain 0 (runs_of starts lengths) q.0;
        lengths = q.1;
      }

  module _ (old : List ℕ) (r : Written) (new : List ℕ) (e : record { answer = r; buffer = new } ≡ write_sheet directory mode place starts lengths old) where
    abbrev sheet : Sheet
    sheet = given_sheet directory mode place starts lengths

    not_refused : {A : Type 0} (x : Refusal) → record { answer = r; buffer = new } ≡ unwritten old x → 10 ≤ refusal_number x → r.number ≡ 0 → A
    not_refused x f t z =
        let n : r.number ≡ refusal_number x = ap (λ (o : WriteOutcome). o.answer.number) f in
        absurd (omega arith)

    front : length (sheet_bytes sheet) ≤ length old → record { answer = r; buffer = new } ≡ written old (sheet_bytes sheet) → take r.length new ≡ sheet_bytes sheet
    front h f =
        let n : r.length ≡ length (sheet_bytes sheet) = ap (λ (o : WriteOutcome). o.answer.length) f in
        let b : new ≡ sets old 0 (sheet_bytes sheet) = ap (λ (o : WriteOutcome). o.buffer) f in
        rw (n, b, sets-eq (sheet_bytes sheet) old 0 (omega arith), take_at (sheet_bytes sheet) (drop (0 + length (sheet_bytes sheet)) old) (length (sheet_bytes sheet)) refl)

    abbrev ReadsBack : Type 0
    ReadsBack = r.number ≡ 0 → (pagefile : ℕ) → pagefile % 4096 ≡ 0 → sheet_of (take r.length new) (4096 * run_pages sheet.runs) pagefile ≡ got sheet r.length

    written_reads : in_limits directory mode place starts lengths ≡ true → sound_runs (runs_of starts lengths) ≡ true → Test (length old) (length (sheet_bytes sheet))
        → record { answer = r; buffer = new } ≡ sheet_outcome sheet old → ReadsBack
    written_reads h k (below l) f z pagefile p = not_refused SheetBufferShort (rw (lt-ltb (length old) (length (sheet_bytes sheet)) l) at f) (omega arith) z
    written_reads h k (above l) f z pagefile p =
        let g : record { answer = r; buffer = new } ≡ written old (sheet_bytes sheet) = rw (le-ltb (length old) (length (sheet_bytes sheet)) l) at f in
        let n : length (sheet_bytes sheet) ≡ r.length = sym (ap (λ (o : WriteOutcome). o.answer.length) g) in
        rw (front l g) (sheet_reads (sheet_bytes sheet) sheet (4096 * run_pages sheet.runs) pagefile refl (given_keeps h k) refl p ∙ ap (got sheet) n)

    pub promise : WriteAnswer directory mode place starts lengths old r new
    unfolding write_sheet
    promise = record {
      same = e;
      reads_back = go (in_limits directory mode place starts lengths) (sound_runs (runs_of starts lengths)) refl refl e;
      writes_again = λ bytes image pagefile s at b a ed em ep es el l.
          let f = sheet_form bytes image pagefile s at (to_bytes bytes b) a in
          let call : write_sheet s.space.directory.0 (mode_number s.space.mode) (place_of s.space.mode) (starts_of s.runs) (lengths_of s.runs) old ≡ write_sheet directory mode place starts lengths old = rw (ed, em, ep, es, el) in
          e ∙ sym call ∙ again s f.keeps old (omega (arith, ap length f.bytes)) ∙ ap (written old) (sym f.bytes);
    }
      where
        go : (a b : Bool)
            → in_limits directory mode place starts lengths ≡ a
            → sound_runs (runs_of starts lengths) ≡ b
            → record { answer = r; buffer = new } ≡ (if not a then unwritten old OutOfLimits else if not b then unwritten old BadRun else sheet_outcome sheet old)
            → ReadsBack
        go false b h k f z pagefile p = not_refused OutOfLimits f (omega arith) z
        go true false h k f z pagefile p = not_refused BadRun f (omega arith) z
        go true true h k f z pagefile p = written_reads h k (test (length old) (length (sheet_bytes sheet))) f z pagefile p
