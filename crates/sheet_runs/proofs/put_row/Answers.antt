-- Three stores, one after the other.
use Rattle.sheet.proofs.ManyRuns.{row_stored}
use Rattle.sheet_runs.proofs.put_row.Goals as goal

pub returns : goal.returns
returns c =
    row_stored c.args.rows.now _ _ _ c.args.i c.args.pages _ c.args.run c.number-first.ensures
    c.put.ensures c.put-2.ensures c.put-3.ensures
