-- The fields of the sheet, then their pages in bytes.
use native.Mathlib.Omega.{arith}
use Rattle.sheet.proofs.WholeSheet.{fields_found, no_fields_found, total_pages}
use Rattle.case_runs.proofs.Length.{no_length, asked}
use Rattle.case_runs.proofs.image_length.Goals as goal

pub overflow_mul-length : goal.overflow_mul-length
overflow_mul-length c = omega (arith, total_pages _ _ _ _ _ (fields_found _ _ _ _ _ _ c.read_fields.ensures c.in-Ok.is))

pub returns-in-Ok : goal.returns-in-Ok
returns-in-Ok c = asked _ _ _ _ _ (fields_found _ _ _ _ _ _ c.read_fields.ensures c.in-Ok.is)

pub returns-in-Err : goal.returns-in-Err
returns-in-Err c = no_length _ _ (no_fields_found _ _ _ _ _ c.read_fields.ensures c.in-Err.is) _ c.into.ensures
