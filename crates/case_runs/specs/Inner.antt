-- A sheet's rows and the numbers of their runs, three a run.
use Rattle.std.specs.Prelude.{ℕ, ◌-◌, ◌≤◌, List, [], ◌∷◌}

-- whole rows, none of whose differences below falls under 0
abbrev pub RowsInOrder : List ℕ → Type 0
RowsInOrder [] = Unit {0}
RowsInOrder (first ∷ end ∷ skipped ∷ rows) = (first ≤ end) × ((skipped ≤ first) × RowsInOrder rows)
RowsInOrder (first ∷ end ∷ []) = ⊥
RowsInOrder (first ∷ []) = ⊥

-- of first frame, frame after the last and frames below in no run: first frame, pages, image page
abbrev pub runs_of_rows : List ℕ → List ℕ
runs_of_rows [] = []
runs_of_rows (first ∷ end ∷ skipped ∷ rows) = first ∷ (end - first) ∷ (first - skipped) ∷ runs_of_rows rows
runs_of_rows (first ∷ end ∷ []) = first ∷ end ∷ []
runs_of_rows (first ∷ []) = first ∷ []
