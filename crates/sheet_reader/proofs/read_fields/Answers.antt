-- The header, the runs, the end: each step is one of the definition.
use Rattle.std.specs.Prelude.{◌≡◌, Result, Err}
use Prim.Native.Nat.{ℕ}
use borrow.Author.Rules.{rules}
use Rattle.base.specs.declared.Fault.{Fault}
use Rattle.varint.proofs.Fields.{value_got, refused_bad}
use Rattle.sheet.specs.declared.Header.{Header}
use Rattle.sheet.proofs.AcceptedCase.{header_fields_lem}
use Rattle.sheet.proofs.WholeSheet.{runs_found, no_runs_found, no_header, no_runs, trailing, whole}
use Rattle.sheet_reader.proofs.read_fields.Goals as goal

pub returns-in_err-header : goal.returns-in_err-header
returns-in_err-header c =
    let same : ◌≡◌ {A = Result (Header × ℕ) Fault} c.from_residual.result (Err c.in_err-header.field-0.0) = search rules in
    rw same (no_header _ _ _ _ (refused_bad _ _ _ c.read_header.ensures c.in_err-header.was))

pub read_runs-requires : goal.read_runs-requires
read_runs-requires c = (header_fields_lem _ _ _ (value_got _ _ _ _ c.read_header.ensures c.in_ok-header.was)).most

pub returns-in_err-pages : goal.returns-in_err-pages
returns-in_err-pages c =
    let same : ◌≡◌ {A = Result (Header × ℕ) Fault} c.from_residual-in_err-pages.result (Err c.in_err-pages.field-0.0) = search rules in
    rw same
    (no_runs _ _ _ _ _ (value_got _ _ _ _ c.read_header.ensures c.in_ok-header.was) _
    (no_runs_found _ _ _ _ _ c.read_runs.ensures c.in_err-pages.was))

pub returns-then-end-sheet : goal.returns-then-end-sheet
returns-then-end-sheet c =
    rw c.into.ensures
    (trailing _ _ _ _ _ (value_got _ _ _ _ c.read_header.ensures c.in_ok-header.was) _ _
    (runs_found _ _ _ _ _ _ c.read_runs.ensures c.in_ok-pages.was) c.if-end-sheet.true)

pub returns : goal.returns
returns c =
    whole _ _ _ _ _ (value_got _ _ _ _ c.read_header.ensures c.in_ok-header.was) _ _
    (runs_found _ _ _ _ _ _ c.read_runs.ensures c.in_ok-pages.was) c.if-end-sheet.false
