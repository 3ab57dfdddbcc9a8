-- 01's wrong program "a list that follows one link and repeats it" does not keep the promise of the list call.
use mathlib.Core.Path.{refl}
use mathlib.Core.List.{List, ◌∷◌}
use Prim.Native.Nat.{ℕ, suc}
use Rattle.walk.specs.Walk.{World}
use Rattle.process_list.specs.Exact.{ExactList}

-- two or more nodes, of which the second is the first again, in any world and at any head
pub repeated_link_refused : (w : World) (h n more : ℕ) (old rest : List ℕ) → ExactList w h old (record { answer = record { number = 0; length = suc (suc more) }; buffer = n ∷ n ∷ rest }) → ⊥
repeated_link_refused w h n more old rest e = (e.different refl).1.0.0 refl
