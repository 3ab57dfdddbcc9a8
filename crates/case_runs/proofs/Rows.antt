-- The rows of runs that follow one another are in order, and turned they are the numbers of the runs.
use mathlib.Core.Path.{◌≡◌, refl}
use mathlib.Core.List.{List, [], ◌∷◌}
use Prim.Native.Nat.{ℕ, ◌+◌, ◌-◌, ◌*◌, ◌≤◌}
use native.Mathlib.Omega.{arith}
use lib.ListN.{length}
use Rattle.sheet.specs.Sheet.{end_of}
use Rattle.sheet.specs.Call.{rows_from}
use Rattle.sheet.specs.declared.Run.{Run}
use Rattle.sheet.proofs.AcceptedCase.{Chain}
use Rattle.case_runs.specs.Call.{run_numbers}
use Rattle.case_runs.specs.Inner.{RowsInOrder, runs_of_rows}

pub numbers_long : (pages : ℕ) (rs : List Run) → length (run_numbers pages rs) ≡ 3 * length rs
numbers_long pages [] = refl
numbers_long pages (r ∷ rs) = omega (arith, numbers_long (pages + r.pages) rs)

-- no more pages stand before a run in the image than frames before it in memory
pub rows_in_order : (least end pages : ℕ) (rs : List Run) → Chain least end rs → pages ≤ end → RowsInOrder (rows_from pages rs)
rows_in_order least end pages [] c h = tt
rows_in_order least end pages (r ∷ rs) c h = (omega arith, (omega arith, rows_in_order 1 (end_of r) (pages + r.pages) rs c.1 (omega (arith, c.0.apart))))

pub rows_turned : (least end pages : ℕ) (rs : List Run) → Chain least end rs → pages ≤ end → runs_of_rows (rows_from pages rs) ≡ run_numbers pages rs
rows_turned least end pages [] c h = refl
rows_turned least end pages (r ∷ rs) c h =
    let length_of : end_of r - r.first.0 ≡ r.pages = omega arith in
    let page_of_lem : r.first.0 - (r.first.0 - pages) ≡ pages = omega (arith, c.0.apart) in
    rw (length_of, page_of_lem, rows_turned 1 (end_of r) (pages + r.pages) rs c.1 (omega (arith, c.0.apart)))
