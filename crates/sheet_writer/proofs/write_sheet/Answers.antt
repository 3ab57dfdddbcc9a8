-- The promise follows from the equation.
use Rattle.sheet_writer.proofs.Whole.{promise}
use Rattle.sheet_writer.proofs.write_sheet.Goals as goal

pub returns-in-Ok : goal.returns-in-Ok
returns-in-Ok c = promise _ _ _ _ _ _ _ _ c.in-Ok.ensures

pub returns-in-Err : goal.returns-in-Err
returns-in-Err c = promise _ _ _ _ _ _ _ _ (rw c.into.ensures c.in-Err.ensures)
