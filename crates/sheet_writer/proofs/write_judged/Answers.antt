-- A buffer that no sheet is longer than is written at once; in another the sheet was measured and fits.
use Rattle.std.proofs.Common.{◌≤◌, length, arith}
use Rattle.sheet_limits.specs.Write.{sheet_bytes}
use Rattle.sheet_bytes.specs.Inner.{written_sheet}
use Rattle.sheet_writer.proofs.Passes.{sheet_most, full_sheet}
use Rattle.sheet_writer.proofs.write_judged.Goals.{then-out-lt-SHEET_BYTES+else-out-length, else-out-lt-SHEET_BYTES}
use Rattle.sheet_writer.proofs.write_judged.Goals as goal

pub returns : goal.returns
returns c =
    let sheet = written_sheet c.args.header c.args.runs.starts.now c.args.runs.lengths.now in
    let fits : length (sheet_bytes sheet) ≤ length c.args.out.now = elim c.if-out-lt-SHEET_BYTES.branch [ then-out-lt-SHEET_BYTES+else-out-length w ↦ omega (arith, w.write_fields-length.ensures.place, w.if-out-length.false) | else-out-lt-SHEET_BYTES w ↦ omega (arith, sheet_most c.requires c.args.runs.given) ] in
    full_sheet sheet fits c.write_fields.ensures
