-- The five numbers, and the tests that the check of a sheet has for them.
use native.Mathlib.Omega.{arith}
use Rattle.varint.proofs.Fields.{field_below}
use Rattle.varint.proofs.Short.{short_got}
use Rattle.one_run_sheet.proofs.Whole.{told}
use Rattle.one_run_sheet.proofs.read_one_run.Goals as goal

pub overflow_add-gap : goal.overflow_add-gap
overflow_add-gap c =
    let gap = short_got _ _ _ _ _ c.read_short-4.ensures c.in_ok-gap.was in
    let pages = short_got _ _ _ _ _ c.read_short-5.ensures c.in_ok-pages.was in
    omega (arith, field_below _ _ _ _ gap, field_below _ _ _ _ pages)

pub returns : goal.returns
returns c =
    let edition = short_got _ 0 _ _ _ c.read_short.ensures c.in_ok-edition.was in
    let directory = short_got _ _ _ _ _ c.read_short-2.ensures c.in_ok-directory.was in
    let count = short_got _ _ _ _ _ c.read_short-3.ensures c.in_ok-count.was in
    let gap = short_got _ _ _ _ _ c.read_short-4.ensures c.in_ok-gap.was in
    let pages = short_got _ _ _ _ _ c.read_short-5.ensures c.in_ok-pages.was in
    told _ _ _ _ _ _ _ _ _ _ _ _ _ (omega arith) edition directory (omega arith) count gap pages
    (omega arith) (λ z. omega (arith, z)) (omega arith) (omega arith) (omega arith) _ _ c.numbered.ensures c.numbered-first.ensures
