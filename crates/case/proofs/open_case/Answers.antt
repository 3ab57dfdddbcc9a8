-- Three numbers a run.
use native.Mathlib.Omega.{arith}
use Rattle.case.proofs.Opening.{few_rows}
use Rattle.case.proofs.open_case.Goals as goal

pub overflow_mul-result : goal.overflow_mul-result
overflow_mul-result c = omega (arith, few_rows _ _ _ _ _ c.read_sheet.ensures.same c.in_ok-header.was)
