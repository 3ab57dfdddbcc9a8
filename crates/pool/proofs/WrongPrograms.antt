-- A list that does not ascend does not keep the call's promise.
use mathlib.Core.Path.{refl}
use mathlib.Core.List.{List, ◌∷◌}
use Prim.Native.Nat.{ℕ}
use native.Mathlib.Omega.{arith}
use Rattle.pool.specs.Call.{PoolAnswer}

-- the offsets 8 and 0 in this order, for any image and any buffer
pub falling_list_refused : (image old rest : List ℕ) → PoolAnswer image old (record { number = 0; length = 2 }) (8 ∷ 0 ∷ rest) → ⊥
falling_list_refused image old rest p = absurd (omega (arith, (p.ascends refl).0.0))
