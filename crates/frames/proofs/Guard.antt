-- What the guard lets through.
use Rattle.std.specs.Prelude.{if◌then◌else◌, Option, Some, None}
use mathlib.Core.Path.{◌≡◌, refl, sym, ◌∙◌}
use mathlib.Core.Bool.{Bool, true, false}
use Prim.Native.Nat.{ℕ, ◌/◌, ◌<◌}
use native.Mathlib.Omega.{arith}
use lib.Dec.{ltb}
use borrow.Author.Tests.{ltb-true}
use Rattle.frames.specs.Rows.{guarded}

-- a page that the guard lets through lies in the image
pub guarded_below : (n p : ℕ) (x : Option ℕ) → guarded n x ≡ Some p → p < n / 4096
unfolding guarded
guarded_below n p None e = absurd (let z : ◌≡◌ {A = ℕ} 0 1 = cc in omega arith)
guarded_below n p (Some q) e = go (ltb q (n / 4096)) refl e
  where
    go : (b : Bool) → ltb q (n / 4096) ≡ b → (if b then Some q else None) ≡ Some p → p < n / 4096
    go true f g =
        let same : q ≡ p = cc in
        rw same at (ltb-true q (n / 4096) f)
    go false f g = absurd (let z : ◌≡◌ {A = ℕ} 0 1 = cc in omega arith)

-- what a caller of `locate` learns
pub located : (n p : ℕ) (x : Option ℕ) (v : Option ℕ) → v ≡ guarded n x → v ≡ Some p → p < n / 4096
located n p x v e f = guarded_below n p x (sym e ∙ f)
