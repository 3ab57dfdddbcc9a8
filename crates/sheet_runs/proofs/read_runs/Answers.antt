-- The rows so far and the runs still to read are the whole; a refused run leaves the numbers free.
use Rattle.std.specs.Prelude.{◌≡◌, Result, Err}
use Prim.Native.Nat.{ℕ}
use native.Mathlib.Omega.{arith}
use Rattle.base.specs.declared.Fault.{Fault}
use Rattle.varint.proofs.Fields.{value_got, refused_bad}
use Rattle.sheet.proofs.OneRun.{follows}
use Rattle.sheet.proofs.ManyRuns.{starts, stopped, row_fits, again, ended}
use borrow.Author.Rules.{rules}
use Rattle.sheet_runs.proofs.read_runs.Goals as goal

pub loop-i-init : goal.loop-i-init
loop-i-init c = starts c.args.s.now c.args.from c.args.count c.args.rows.now

pub returns-in_err-run : goal.returns-in_err-run
returns-in_err-run c =
    let same : ◌≡◌ {A = Result (ℕ × ℕ) Fault} c.from_residual.result (Err c.in_err-run.field-0.0) = search rules in
    rw same (stopped c.loop-i.invariant c.loop-i-test.true _ (refused_bad _ _ _ c.read_run.ensures c.in_err-run.was))

pub put_row-requires : goal.put_row-requires
put_row-requires c = (search rules, row_fits c.loop-i.invariant c.loop-i-test.true _ _ (value_got _ _ _ _ c.read_run.ensures c.in_ok-run.was))

pub overflow_add-end : goal.overflow_add-end
overflow_add-end c = omega (arith, (follows _ _ _ _ _ _ (value_got _ _ _ _ c.read_run.ensures c.in_ok-run.was)).top, c.number.ensures)

pub overflow_add-pages : goal.overflow_add-pages
overflow_add-pages c =
    let at-loop = c.loop-i.invariant in
    omega (arith, (follows _ _ _ _ _ _ (value_got _ _ _ _ c.read_run.ensures c.in_ok-run.was)).top, at-loop.fewer, at-loop.top)

pub loop-i-preserved : goal.loop-i-preserved
loop-i-preserved c =
    let read = value_got _ _ _ _ c.read_run.ensures c.in_ok-run.was in
    rw (c.number.ensures, c.put_row.ensures) (again c.loop-i.invariant c.loop-i-test.true _ _ read)

pub returns : goal.returns
returns c = ended c.loop-i.invariant c.loop-i-test.false
