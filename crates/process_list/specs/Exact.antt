-- Demand 2 of a process list: it is accepted exactly if its links close, forward and back.
use Rattle.std.specs.Prelude.{ℕ, ◌+◌, ◌%◌, ◌≤◌, ◌≡◌, List, [], ◌∷◌, Ok, length, take}
use Rattle.base.specs.Written.{WriteOutcome, written}
use Rattle.walk.specs.Walk.{World}
use Rattle.process_list.specs.List.{link_of}

-- y follows x: both words can be read, and y lies at a multiple of 8
pub record Follows (w : World) (x y : ℕ) : Type 0 where
  pub forward : link_of w x ≡ Ok y
  pub aligned : y % 8 ≡ 0
  pub back : link_of w (y + 8) ≡ Ok x

-- from x through the nodes, none of which is h, back to h
abbrev pub Closes : World → ℕ → ℕ → List ℕ → Type 0
Closes w h x [] = Follows w x h
Closes w h x (y ∷ ys) = Follows w x y × ((y ≡ h → ⊥) × Closes w h y ys)

abbrev pub Absent : ℕ → List ℕ → Type 0
Absent x [] = Unit {0}
Absent x (y ∷ ys) = (x ≡ y → ⊥) × Absent x ys

abbrev pub AllDifferent : List ℕ → Type 0
AllDifferent [] = Unit {0}
AllDifferent (x ∷ xs) = Absent x xs × AllDifferent xs

-- a list that closes within 4,096 processes
pub record ClosedList (w : World) (h : ℕ) (xs : List ℕ) : Type 0 where
  pub head : h % 8 ≡ 0
  pub closes : Closes w h h xs
  pub most : length xs ≤ 4096

pub record ExactList (w : World) (h : ℕ) (old : List ℕ) (out : WriteOutcome) : Type 0 where
  -- accepted: the written nodes close, fit the buffer, are all different, and none is the head
  pub sound : out.answer.number ≡ 0 → ClosedList w h (take out.answer.length out.buffer)
  pub fits : out.answer.number ≡ 0 → out.answer.length ≤ length old
  pub different : out.answer.number ≡ 0 → AllDifferent (h ∷ take out.answer.length out.buffer)
  -- and a list that closes and fits is accepted
  pub complete : (xs : List ℕ) → ClosedList w h xs → length xs ≤ length old → out ≡ written old xs
