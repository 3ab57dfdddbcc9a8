-- 96 numbers are enough for the rows of a sheet with few runs, 3,000 for those of any.
use mathlib.Core.Path.{sym, ◌∙◌}
use Rattle.case.specs.Case.{case_of}
use Rattle.case.proofs.Opening.{enough_numbers, enough_for_few}
use Rattle.case.proofs.with_case.Goals as goal

pub run_over-requires-clause-enough : goal.run_over-requires-clause-enough
run_over-requires-clause-enough g c =
    let args = c.args in
    enough_for_few (case_of args.sheet.now args.image.now args.pagefile.now) (sym c.has_few_runs.ensures ∙ c.if-has_few_runs.true)

pub run_over-requires-2-clause-enough : goal.run_over-requires-2-clause-enough
run_over-requires-2-clause-enough g c =
    let args = c.args in
    enough_numbers (case_of args.sheet.now args.image.now args.pagefile.now)
