-- The decimal form by two equations that bound no steps, and that it is what std writes of a number.
use mathlib.Core.Path.{◌≡◌, refl, sym, ap, ◌∙◌}
use mathlib.Core.List.{List, [], ◌∷◌, ◌++◌}
use Prim.Native.Nat.{ℕ, zero, suc, ◌/◌, ◌%◌, ◌^◌, ◌<◌, ◌≤◌}
use native.Mathlib.Omega.{arith}
use borrow.Author.Tests.{lt-ltb, le-ltb}
use Rattle.base.proofs.Test.{Test, test, below, above}
use Rattle.std.specs.Fmt.{decimal}
use Rattle.std.proofs.lemmas.Fmt.{decimal_by_steps}
use Rattle.address.specs.Line.{digit, decimal_steps, decimal_of}

in_small : (m n : ℕ) → n < 10 → decimal_steps m n ≡ digit n ∷ []
in_small zero n h = refl
in_small (suc m) n h = rw (lt-ltb n 10 h)

in_more : (m n : ℕ) → 10 ≤ n → decimal_steps (suc m) n ≡ decimal_steps m (n / 10) ++ digit (n % 10) ∷ []
in_more m n h = rw (le-ltb n 10 h)

-- more steps than n change nothing
in_enough : (m k n : ℕ) → n ≤ m → n ≤ k → decimal_steps m n ≡ decimal_steps k n
in_enough zero k n h g = sym (in_small k n (omega arith))
in_enough (suc m) zero n h g = in_small (suc m) n (omega arith)
in_enough (suc m) (suc k) n h g = go (test n 10) (λ h' g'. in_enough m k (n / 10) h' g')
  where
    go : Test n 10 → (n / 10 ≤ m → n / 10 ≤ k → decimal_steps m (n / 10) ≡ decimal_steps k (n / 10)) → decimal_steps (suc m) n ≡ decimal_steps (suc k) n
    go (below s) ih = in_small (suc m) n s ∙ sym (in_small (suc k) n s)
    go (above b) ih = rw (in_more m n b, in_more k n b, ih (omega arith) (omega arith))

pub decimal_small : (n : ℕ) → n < 10 → decimal_of n ≡ digit n ∷ []
unfolding decimal_of
decimal_small n h = in_small n n h

pub decimal_more : (n : ℕ) → 10 ≤ n → decimal_of n ≡ decimal_of (n / 10) ++ digit (n % 10) ∷ []
unfolding decimal_of
decimal_more zero h = absurd (omega arith)
decimal_more (suc n) h = in_more n (suc n) h ∙ ap (λ (l : List ℕ). l ++ digit (suc n % 10) ∷ []) (in_enough n (suc n / 10) (suc n / 10) (omega arith) (omega arith))

-- what std writes of a number is its decimal form
pub same_decimal : (n : ℕ) → n < 2 ^ 64 → decimal n ≡ decimal_of n
same_decimal = decimal_by_steps (λ n ds. ds ≡ decimal_of n) (λ n h. sym (decimal_small n h)) (λ n ds h e. ap (λ (l : List ℕ). l ++ digit (n % 10) ∷ []) e ∙ sym (decimal_more n h))
