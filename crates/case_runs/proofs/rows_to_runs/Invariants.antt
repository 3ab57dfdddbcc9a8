-- Each turn makes of the row at the loop's place its run's numbers; the rows before it are done, those after it as lent.
use Prim.Native.Nat.{◌*◌}
use Rattle.case_runs.proofs.Turning.{Turning}
use Rattle.case_runs.proofs.rows_to_runs.Given as goal

abbrev pub invariant-loop-i : goal.invariant-loop-i
invariant-loop-i l = Turning l.initial.rows l.rows (3 * l.i)
