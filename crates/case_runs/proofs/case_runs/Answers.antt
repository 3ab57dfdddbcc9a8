-- The check, then 53; then the rows over the buffer's front, turned into the numbers of the runs.
use native.Mathlib.Omega.{arith}
use Rattle.case_runs.proofs.Answers.{refused_sheet, short_buffer, ordered, handed_back}
use Rattle.case_runs.proofs.case_runs.Goals as goal

pub returns-in-Err : goal.returns-in-Err
returns-in-Err c = refused_sheet _ _ _ _ c.check_sheet.ensures _ _ c.in-Err.is _ c.into.ensures

pub returns-then-out-header : goal.returns-then-out-header
returns-then-out-header c =
    short_buffer _ _ _ _ c.check_sheet.ensures _ _ c.in-Ok.is (omega (arith, c.if-out-header.true)) _ c.into-then-out-header.ensures

pub rows_to_runs-requires : goal.rows_to_runs-requires
rows_to_runs-requires c =
    ordered _ _ _ _ c.check_sheet.ensures _ _ c.in-Ok.is (omega (arith, c.if-out-header.false)) _ _ c.read_sheet-header.ensures

pub returns : goal.returns
returns c =
    handed_back _ _ _ _ c.check_sheet.ensures _ _ c.in-Ok.is (omega (arith, c.if-out-header.false)) _ _ c.read_sheet-header.ensures
    _ c.rows_to_runs.ensures _ _ _ c.number.ensures c.from-numbers.ensures.0 c.from-numbers.ensures.1
