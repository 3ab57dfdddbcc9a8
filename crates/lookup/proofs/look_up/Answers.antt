-- Each return is one step of reading a whole map: no header, no extents, an address that is refused, or the answer of the page.
use Rattle.std.proofs.Common.{rules, ◌≡◌, Ok, Err, sym, ◌∙◌}
use Rattle.base.specs.Refusal.{unplaced}
use Rattle.varint.proofs.Fields.{value_got, refused_bad}
use Rattle.lookup.specs.Inner.{asked_of}
use Rattle.lookup.proofs.WholeMap.{no_header, asked_count, no_extents, not_asked, answered}
use Rattle.lookup.proofs.look_up.Goals as goal

pub returns-in_err-header : goal.returns-in_err-header
returns-in_err-header c =
    let e : c.from_residual.result ≡ Err c.in_err-header.field-0.0 = search rules in
    rw e (no_header _ _ _ (refused_bad _ _ _ c.read_header.ensures c.in_err-header.was))

pub read_page-requires : goal.read_page-requires
read_page-requires c =
    let header = value_got _ _ _ _ c.read_header.ensures c.in_ok-header.was in
    rw (c.unwrap_or.ensures, c.asked_page-asked.ensures) (asked_count _ _ _ _ header)

pub returns-in_err-page : goal.returns-in_err-page
returns-in_err-page c =
    let e : c.from_residual-in_err-page.result ≡ Err c.in_err-page.field-0.0 = search rules in
    let header = value_got _ _ _ _ c.read_header.ensures c.in_ok-header.was in
    rw e (no_extents _ _ _ _ header _ _ c.read_page.ensures.same _ c.in_err-page.was)

pub returns-in_err-asked : goal.returns-in_err-asked
returns-in_err-asked c =
    let e : c.from_residual-in_err-asked.result ≡ Err (unplaced c.in_err-asked.field-0.0) = search rules in
    let header = value_got _ _ _ _ c.read_header.ensures c.in_ok-header.was in
    let asked = sym c.asked_page-asked.ensures ∙ c.in_err-asked.was in
    rw e (not_asked _ _ _ _ header _ _ c.read_page.ensures.same _ c.in_ok-page.was _ asked)

pub returns : goal.returns
returns c =
    let header = value_got _ _ _ _ c.read_header.ensures c.in_ok-header.was in
    let k : c.unwrap_or.result ≡ c.in_ok-asked.field-0 = rw (c.unwrap_or.ensures, c.in_ok-asked.was) in
    let asked : asked_of c.in_ok-header.header c.args.address ≡ Ok c.unwrap_or.result = rw k (sym c.asked_page-asked.ensures ∙ c.in_ok-asked.was) in
    rw c.place.ensures (answered _ _ _ _ header _ _ c.read_page.ensures.same _ c.in_ok-page.was asked)
