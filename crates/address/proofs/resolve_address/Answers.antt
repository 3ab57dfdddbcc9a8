-- A sheet of one run, walked over its one row, and any other.
use native.Mathlib.Omega.{arith}
use Rattle.address.proofs.Answers.{one_run_answered, told_end}
use Rattle.address.proofs.resolve_address.Goals as goal

pub overflow_add-row : goal.overflow_add-row
overflow_add-row c = omega (arith, c.number-first.ensures, told_end _ _ _ _ _ _ _ c.read_one_run.ensures c.in-Some.is)

pub returns-in-Some : goal.returns-in-Some
returns-in-Some c =
    rw c.into.ensures
    (one_run_answered _ _ _ _ _ _ c.read_one_run.ensures c.in-Some.is c.number-first.ensures _ c.resolve_four_level.ensures)
