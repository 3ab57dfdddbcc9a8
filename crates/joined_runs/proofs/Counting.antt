-- Judging and counting the given runs one by one: what was joined so far, before the runs still to come, is the whole.
use Rattle.std.specs.Prelude.{Some, None, Ok, Err, if◌then◌else◌}
use mathlib.Core.Path.{◌≡◌, refl, ap}
use mathlib.Core.Bool.{Bool, true, false}
use mathlib.Core.List.{List, [], ◌∷◌}
use Prim.Native.Nat.{ℕ, ◌+◌, ◌^◌, ◌<◌, ◌≤◌}
use native.Mathlib.Omega.{arith}
use lib.ListN.{length}
use borrow.Author.Tests.{lt-ltb, le-ltb}
use Rattle.base.specs.declared.Refusal.{Refusal}
use Rattle.base.specs.declared.Refusal.TheVariants.{BadRun}
use Rattle.sheet.specs.Sheet.{end_of}
use Rattle.sheet.specs.declared.Run.{Run}
use Rattle.sheet.proofs.OneRun.{Follows}
use Rattle.sheet_limits.specs.Write.{all_below, runs_of, follows, in_order, touches, as_one, joined_before, joined_runs, writable}
use Rattle.joined_runs.specs.Inner.{given_run, counted_runs, run_after, joined_run}
use Rattle.joined_runs.proofs.GivenRuns.{runs_over, first_below, First}
use Rattle.joined_runs.proofs.Joining.{touching, apart, one_end, run_follows}

-- ---- what a run's two questions answer

module _ (end : ℕ) (r : Run) where
  pub can_follow : (x : Run) → Ok x ≡ run_after end r → (follows end r ≡ true) × (x ≡ r)
  can_follow x = go (follows end r)
    where
      go : (b : Bool) → Ok x ≡ (if b then Ok r else Err BadRun) → (b ≡ true) × (x ≡ r)
      go true e = (refl, cc)
      go false e = absurd (cc)

  pub cannot_follow : (x : Refusal) → Err x ≡ run_after end r → (follows end r ≡ false) × (x ≡ BadRun)
  cannot_follow x = go (follows end r)
    where
      go : (b : Bool) → Err x ≡ (if b then Ok r else Err BadRun) → (b ≡ false) × (x ≡ BadRun)
      go true e = absurd (cc)
      go false e = (refl, cc)

module _ (last r : Run) where
  pub do_touch : (x : Run) → Some x ≡ joined_run last r → (touches last r ≡ true) × (x ≡ as_one last r)
  do_touch x = go (touches last r)
    where
      go : (b : Bool) → Some x ≡ (if b then Some (as_one last r) else None) → (b ≡ true) × (x ≡ as_one last r)
      go true e = (refl, cc)
      go false e = absurd (cc)

  pub are_apart : None ≡ joined_run last r → touches last r ≡ false
  are_apart = go (touches last r)
    where
      go : (b : Bool) → None ≡ (if b then Some (as_one last r) else None) → b ≡ false
      go true e = absurd (cc)
      go false e = refl

-- ---- the runs so far and those still to come

pub record Counting (all : List Run) (last : Run) (count : ℕ) (ss ls : List ℕ) : Type 0 where
  pub few : count + length ss ≤ 1000
  pub alike : length ss ≡ length ls
  pub starts_below : all_below ss ≡ true
  pub lengths_below : all_below ls ≡ true
  pub order : in_order 0 all ≡ in_order (end_of last) (runs_of ss ls)
  pub lengths : writable (joined_runs all) ≡ writable (joined_before last (joined_runs (runs_of ss ls)))
  pub many : length (joined_runs all) + 1 ≡ count + length (joined_before last (joined_runs (runs_of ss ls)))

module _ {ss ls : List ℕ} {s l : ℕ} {ss' ls' : List ℕ} (f : First ss ls s l ss' ls') where
  pub bad_first : follows 0 (given_run s l) ≡ false → Err BadRun ≡ counted_runs (runs_of ss ls)
  bad_first h = rw (f.runs, h)

  pub counting_first : follows 0 (given_run s l) ≡ true → Counting (runs_of ss ls) (given_run s l) 1 ss' ls'
  counting_first h = record {
    few = omega (arith, f.few);
    alike = f.alike;
    starts_below = f.starts_below;
    lengths_below = f.lengths_below;
    order = rw (f.runs, h);
    lengths = rw f.runs;
    many = rw f.runs (omega arith);
  }

module _ {all : List Run} {last : Run} {count s l : ℕ} {ss ls : List ℕ} (q : Counting all last count (s ∷ ss) (l ∷ ls)) where
  pub next_below : (s < 2 ^ 36) × (l < 2 ^ 36)
  next_below = ((first_below s ss q.starts_below).0, (first_below l ls q.lengths_below).0)

  pub bad_next : follows (end_of last) (given_run s l) ≡ false → Err BadRun ≡ counted_runs all
  bad_next h = rw (q.order, h)

  module _ (h : follows (end_of last) (given_run s l) ≡ true) where
    abbrev r : Run
    r = given_run s l

    pub counting_touching : touches last r ≡ true → Counting all (as_one last r) count ss ls
    counting_touching t =
        let joined = touching last r (joined_runs (runs_of ss ls)) t in
        record {
          few = omega (arith, q.few);
          alike = omega (arith, q.alike);
          starts_below = (first_below s ss q.starts_below).1;
          lengths_below = (first_below l ls q.lengths_below).1;
          order = rw (one_end last r t, q.order, h);
          lengths = rw (q.lengths, joined);
          many = rw joined at q.many;
        }

    -- a run that another follows ends below page 2^36
    pub counting_apart : touches last r ≡ false → Counting all r (count + 1) ss ls
    counting_apart t =
        let f : Follows 0 (end_of last) r = run_follows (end_of last) r h in
        let joined = apart last r (joined_runs (runs_of ss ls)) t in
        record {
          few = omega (arith, q.few);
          alike = omega (arith, q.alike);
          starts_below = (first_below s ss q.starts_below).1;
          lengths_below = (first_below l ls q.lengths_below).1;
          order = rw (q.order, h);
          lengths = rw (q.lengths, joined, lt-ltb last.pages (2 ^ 36) (omega (arith, f.apart, f.some, f.top)));
          many = omega (arith, q.many, ap (λ (rs : List Run). length rs) joined);
        }

module _ {all : List Run} {last : Run} {count : ℕ} {ss ls : List ℕ} (q : Counting all last count ss ls) (none : length ss ≡ 0) where
  alone : joined_before last (joined_runs (runs_of ss ls)) ≡ last ∷ []
  unfolding joined_before
  alone = rw (runs_over ss ls none)

  pub too_long : 2 ^ 36 ≤ last.pages → Err BadRun ≡ counted_runs all
  too_long h = rw (q.order, q.lengths, alone, runs_over ss ls none, le-ltb last.pages (2 ^ 36) h)

  pub counted : last.pages < 2 ^ 36 → Ok count ≡ counted_runs all
  counted h =
      let n : length (joined_runs all) ≡ count = omega (arith, q.many, ap (λ (rs : List Run). length rs) alone) in
      rw (q.order, q.lengths, alone, runs_over ss ls none, lt-ltb last.pages (2 ^ 36) h, n)
