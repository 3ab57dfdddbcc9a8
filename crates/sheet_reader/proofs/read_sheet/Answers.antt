-- The fields, then the lengths: each step is one of the definition.
use Rattle.std.specs.Prelude.{◌≡◌, Result, Err}
use borrow.Author.Rules.{rules}
use native.Mathlib.Omega.{arith}
use Rattle.base.specs.declared.Fault.{Fault}
use Rattle.sheet.specs.declared.Header.{Header}
use Rattle.sheet.proofs.WholeSheet.{fields_found, no_fields_found, total_pages, faulty, other_image, part_of_a_page, accepted}
use Rattle.sheet_reader.proofs.read_sheet.Goals as goal

pub returns-in_err-header : goal.returns-in_err-header
returns-in_err-header c =
    let same : ◌≡◌ {A = Result Header Fault} c.from_residual.result (Err c.in_err-header.field-0.0) = search rules in
    rw same (faulty _ _ _ _ _ _ (no_fields_found _ _ _ _ _ c.read_fields.ensures c.in_err-header.was))

pub overflow_mul-pages : goal.overflow_mul-pages
overflow_mul-pages c = omega (arith, total_pages _ _ _ _ _ (fields_found _ _ _ _ _ _ c.read_fields.ensures c.in_ok-header.was))

pub returns-then-image-pages : goal.returns-then-image-pages
returns-then-image-pages c =
    rw c.into.ensures (other_image _ _ _ _ _ _ _ (fields_found _ _ _ _ _ _ c.read_fields.ensures c.in_ok-header.was) c.if-image-pages.true)

pub returns-then-pagefile-ne0 : goal.returns-then-pagefile-ne0
returns-then-pagefile-ne0 c =
    rw c.into-then-pagefile-ne0.ensures
    (part_of_a_page _ _ _ _ _ _ _ (fields_found _ _ _ _ _ _ c.read_fields.ensures c.in_ok-header.was) c.if-image-pages.false c.if-pagefile-ne0.true)

pub returns : goal.returns
returns c =
    accepted _ _ _ _ _ _ _ (fields_found _ _ _ _ _ _ c.read_fields.ensures c.in_ok-header.was) c.if-image-pages.false c.if-pagefile-ne0.false
