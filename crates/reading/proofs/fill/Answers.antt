-- A page at a time: the bytes so far, and those from where the loop stands, are all bytes.
use native.Mathlib.Omega.{arith}
use Rattle.std.proofs.Common.{rules, ◌≡◌, Err}
use Rattle.reading.proofs.PageBytes.{at_top, page_refused, page_laid, filled, piece_at, some_piece, page_piece}
use Rattle.reading.proofs.fill.Goals as goal

pub returns-then-address-i : goal.returns-then-address-i
returns-then-address-i c = at_top c.loop-i.invariant (omega arith) (omega arith)

pub returns-in_err-zeros : goal.returns-in_err-zeros
returns-in_err-zeros c =
    let some = some_piece _ _ _ _ (omega arith) c.min-m.ensures in
    let page = page_piece _ _ _ _ c.min-m.ensures in
    let same : c.from_residual.result ≡ Err c.in_err-zeros.field-0.0 = search rules in
    rw same (page_refused c.loop-i.invariant _ some.0 some.1 page _ _ c.fill_page.ensures _ c.in_err-zeros.was)

pub loop-i-preserved : goal.loop-i-preserved
loop-i-preserved c =
    let some = some_piece _ _ _ _ (omega arith) c.min-m.ensures in
    let page = page_piece _ _ _ _ c.min-m.ensures in
    page_laid c.loop-i.invariant _ some.0 some.1 page _ _ c.fill_page.ensures _ c.in_ok-zeros.was (piece_at c.args.case.now _ _ page)

pub returns : goal.returns
returns c = filled c.loop-i.invariant (omega arith)
