-- The runs as given: how many they are, and the first before the others.
use mathlib.Core.Path.{◌≡◌, refl, ap}
use mathlib.Core.Bool.{true}
use mathlib.Core.List.{List, [], ◌∷◌}
use Prim.Native.Nat.{ℕ, suc, ◌-◌, ◌^◌, ◌<◌}
use native.Mathlib.Omega.{arith}
use lib.Dec.{ltb}
use lib.ListN.{length, get_or, drop, take}
use lib.Seq.{take_all}
use borrow.Author.Tests.{ltb-true}
use Rattle.base.proofs.Test.{both_true}
use Rattle.sheet_limits.specs.Write.{all_below, runs_of}
use Rattle.sheet_limits.specs.Inner.{Given}
use Rattle.joined_runs.specs.Inner.{given_run}

pub runs_length : (ss ls : List ℕ) → length ss ≡ length ls → length (runs_of ss ls) ≡ length ss
runs_length [] ls e = refl
runs_length (s ∷ ss) [] e = absurd (omega arith)
runs_length (s ∷ ss) (l ∷ ls) e = ap suc (runs_length ss ls (omega arith))

pub runs_over : (ss ls : List ℕ) → length ss ≡ 0 → runs_of ss ls ≡ []
runs_over [] ls e = refl
runs_over (s ∷ ss) ls e = absurd (omega arith)

pub first_below : (n : ℕ) (ns : List ℕ) → all_below (n ∷ ns) ≡ true → (n < 2 ^ 36) × (all_below ns ≡ true)
first_below n ns b = let p = both_true (ltb n (2 ^ 36)) (all_below ns) b in (ltb-true n (2 ^ 36) p.0, p.1)

-- the first run of lists that were judged, and the lists of the others
pub record First (ss ls : List ℕ) (s l : ℕ) (ss' ls' : List ℕ) : Type 0 where
  pub runs : runs_of ss ls ≡ given_run s l ∷ runs_of ss' ls'
  pub few : length ss' < 1000
  pub alike : length ss' ≡ length ls'
  pub start : s < 2 ^ 36
  pub length : l < 2 ^ 36
  pub starts_below : all_below ss' ≡ true
  pub lengths_below : all_below ls' ≡ true

pub first : (ss ls : List ℕ) → Given ss ls → First ss ls (get_or ss 0 0) (get_or ls 0 0) (take (length ss - 1) (drop 1 ss)) (take (length ls - 1) (drop 1 ls))
first [] ls g = absurd (omega (arith, g.some))
first (s ∷ ss) [] g = absurd (omega (arith, g.alike))
first (s ∷ ss) (l ∷ ls) g =
    let a = first_below s ss g.starts_below in
    let b = first_below l ls g.lengths_below in
    rw (take_all (length (s ∷ ss) - 1) ss (omega arith), take_all (length (l ∷ ls) - 1) ls (omega arith))
    (record {
      runs = refl;
      few = omega (arith, g.most);
      alike = omega (arith, g.alike);
      start = a.0;
      length = b.0;
      starts_below = a.1;
      lengths_below = b.1;
    })
