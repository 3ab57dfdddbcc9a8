-- The codes as stretches of numbers, as `is_code` tests them; and a code is a small number.
use mathlib.Core.Path.{◌≡◌, refl, sym, ◌∙◌}
use Rattle.std.proofs.Common.{◌≢◌}
use mathlib.Core.Bool.{Bool, true, false, ◌&&◌, ◌||◌}
use mathlib.Core.List.{List, [], ◌∷◌, ◌++◌}
use Prim.Native.Nat.{ℕ, zero, suc, ◌+◌, ◌<◌, ◌≤◌}
use native.Mathlib.Omega.{arith}
use lib.Dec.{ltb, leb, eqb}
use borrow.Author.Tests.{lt-ltb, le-ltb, le-leb, lt-leb, eq-eqb, ne_eqb}
use Rattle.base.specs.Codes.{member, is_code}
use Rattle.base.proofs.Test.{Test, test, below, above}

-- n numbers one after another
abbrev stretch : ℕ → ℕ → List ℕ
stretch low zero = []
stretch low (suc n) = low ∷ stretch (suc low) n

member_append : (c : ℕ) (xs ys : List ℕ) → member c (xs ++ ys) ≡ (member c xs || member c ys)
member_append c [] ys = refl
member_append c (x ∷ xs) ys = go (eqb c x) (member_append c xs ys)
  where
    go : (b : Bool) → member c (xs ++ ys) ≡ (member c xs || member c ys) → (b || member c (xs ++ ys)) ≡ ((b || member c xs) || member c ys)
    go true e = refl
    go false e = e

member_stretch : (c low n : ℕ) → member c (stretch low n) ≡ (leb low c && ltb c (low + n))
member_stretch c low zero = go (test c low)
  where
    go : Test c low → false ≡ (leb low c && ltb c (low + 0))
    go (below h) = rw (lt-leb low c h)
    go (above h) = rw (le-leb low c h, le-ltb c (low + 0) (omega arith))
member_stretch c low (suc n) = rw (member_stretch c (suc low) n) (go (test c low) (test low c) (test c (suc low + n)))
  where
    go : Test c low → Test low c → Test c (suc low + n) → (eqb c low || (leb (suc low) c && ltb c (suc low + n))) ≡ (leb low c && ltb c (low + suc n))
    go (below h) u t = rw (ne_eqb c low (λ e. omega (arith, e)), lt-leb (suc low) c (omega arith), lt-leb low c h)
    go (above h) (above u) t = rw (eq-eqb c low (omega arith), le-leb low c h, lt-ltb c (low + suc n) (omega arith))
    go (above h) (below u) (below t) =
        rw (ne_eqb c low (λ e. omega (arith, e)), le-leb (suc low) c (omega arith), lt-ltb c (suc low + n) t, le-leb low c h, lt-ltb c (low + suc n) (omega arith))
    go (above h) (below u) (above t) =
        rw (ne_eqb c low (λ e. omega (arith, e)), le-leb (suc low) c (omega arith), le-ltb c (suc low + n) t, le-leb low c h, le-ltb c (low + suc n) (omega arith))

-- the codes above the two stretches
abbrev singles : List ℕ
singles = 31 ∷ 33 ∷ 34 ∷ []

-- 1 to 3, 21 to 29, and the others one by one
stretches : (c : ℕ) → is_code c ≡ ((leb 1 c && ltb c 4) || ((leb 21 c && ltb c 30) || member c singles))
unfolding is_code
stretches c =
    member_append c (stretch 1 3) (stretch 21 9 ++ singles)
    ∙ rw (member_append c (stretch 21 9) singles, member_stretch c 1 3, member_stretch c 21 9)

-- 30 and below is none of the others, nor is 35 and above
below_singles : (c : ℕ) → c < 31 → member c singles ≡ false
below_singles c h = rw (ne_eqb c 31 (λ e. omega (arith, e)), ne_eqb c 33 (λ e. omega (arith, e)), ne_eqb c 34 (λ e. omega (arith, e)))

above_singles : (c : ℕ) → 34 < c → member c singles ≡ false
above_singles c h = rw (ne_eqb c 31 (λ e. omega (arith, e)), ne_eqb c 33 (λ e. omega (arith, e)), ne_eqb c 34 (λ e. omega (arith, e)))

module _ (c : ℕ) where
  pub code_zero : c < 1 → false ≡ is_code c
  code_zero h = sym (stretches c ∙ rw (lt-leb 1 c h, lt-leb 21 c (omega arith), below_singles c (omega arith)))

  pub code_found : 1 ≤ c → c ≤ 3 → true ≡ is_code c
  code_found h k = sym (stretches c ∙ rw (le-leb 1 c h, lt-ltb c 4 (omega arith)))

  pub code_between : 3 < c → c < 21 → false ≡ is_code c
  code_between h k =
      sym (stretches c ∙ rw (le-leb 1 c (omega arith), le-ltb c 4 (omega arith), lt-leb 21 c k, below_singles c (omega arith)))

  pub code_refused : 21 ≤ c → c ≤ 29 → true ≡ is_code c
  code_refused h k = sym (stretches c ∙ rw (le-leb 1 c (omega arith), le-ltb c 4 (omega arith), le-leb 21 c h, lt-ltb c 30 (omega arith)))

  pub code_single : 29 < c → member c singles ≡ is_code c
  code_single h = sym (stretches c ∙ rw (le-leb 1 c (omega arith), le-ltb c 4 (omega arith), le-leb 21 c (omega arith), le-ltb c 30 (omega arith)))

  pub code_31 : c ≡ 31 → true ≡ is_code c
  code_31 h = rw h (sym (stretches 31))

  pub code_33_or_34 : 33 ≤ c → c ≤ 34 → true ≡ is_code c
  code_33_or_34 h k = go (test c 34)
    where
      go : Test c 34 → true ≡ is_code c
      go (below l) = let e : c ≡ 33 = omega arith in rw e (sym (stretches 33))
      go (above l) = let e : c ≡ 34 = omega arith in rw e (sym (stretches 34))

  pub code_above : 29 < c → c ≢ 31 → c ≢ 33 → c ≢ 34 → false ≡ is_code c
  code_above h n k m = rw (ne_eqb c 31 n, ne_eqb c 33 k, ne_eqb c 34 m) at (code_single h)

  -- it takes one group
  pub code_small : is_code c ≡ true → c < 64
  code_small h = go (test c 64)
    where
      go : Test c 64 → c < 64
      go (below l) = l
      go (above l) =
          let no : false ≡ true = sym (above_singles c (omega arith)) ∙ code_single (omega arith) ∙ h in
          absurd (let z : ◌≡◌ {A = ℕ} 0 1 = cc in omega arith)
