-- Each turn makes of the row at the loop's place its run's numbers; the rows before it are done, those after it as lent.
use Prim.Native.Nat.{◌+◌, ◌*◌}
use mathlib.Core.Path.{◌≡◌}
use native.Mathlib.Omega.{arith}
use Rattle.case_runs.proofs.Turning.{row, first_read, end_read, skipped_read, turned}
use Rattle.case_runs.proofs.rows_to_runs.Goals as goal

pub loop-i-preserved : goal.loop-i-preserved
loop-i-preserved c =
    let here = row c.loop-i.invariant (omega arith) in
    let next : 3 * (c.loop-i.i + 1) ≡ 3 * c.loop-i.i + 3 = omega arith in
    rw next (turned here _ _ (omega (arith, first_read here, end_read here, skipped_read here)) (omega (arith, first_read here, end_read here, skipped_read here)))
