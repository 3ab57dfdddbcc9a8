-- 12 where a limit is broken, 13 where the counting pass refuses a run; else the sheet is ready to be written.
use mathlib.Core.Path.{sym, ◌∙◌}
use Rattle.std.proofs.lemmas.Result.{err_from_is_err_and}
use Rattle.sheet_limits.proofs.Limits.{limits}
use Rattle.sheet_writer.proofs.Judging.{out_of_limits, bad_run, ready, judged}
use Rattle.sheet_writer.proofs.write_given.Goals as goal

pub returns-then-not-is_in_limits : goal.returns-then-not-is_in_limits
returns-then-not-is_in_limits c = out_of_limits _ _ _ _ _ (sym c.is_in_limits.ensures ∙ c.if-not-is_in_limits.true) _

pub invariant_of-runs : goal.invariant_of-runs
invariant_of-runs c = record { given = (limits _ _ _ _ _ (sym c.is_in_limits.ensures ∙ c.if-not-is_in_limits.false)).1 }

pub returns-in_err-count : goal.returns-in_err-count
returns-in_err-count c =
    let p = err_from_is_err_and c.from_residual.result c.from_residual.ensures.1 in
    rw (p.1, p.2) (bad_run _ _ _ _ _ (sym c.is_in_limits.ensures ∙ c.if-not-is_in_limits.false) _ c.in_err-count.ensures _)

pub write_judged-requires : goal.write_judged-requires
write_judged-requires c =
    rw (c.numbered.ensures, c.into.ensures) (ready _ _ _ _ _ (sym c.is_in_limits.ensures ∙ c.if-not-is_in_limits.false) _ c.in_ok-count.ensures)

pub returns : goal.returns
returns c = judged _ _ _ _ _ (sym c.is_in_limits.ensures ∙ c.if-not-is_in_limits.false) _ c.in_ok-count.ensures _ _ _ (rw (c.numbered.ensures, c.into.ensures) at c.write_judged.ensures)
