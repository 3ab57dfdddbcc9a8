-- What is still in question gives what the whole gives, after the looks so far.
use native.Mathlib.Omega.{arith}
use Rattle.std.proofs.Common.{refl}
use Rattle.frames.proofs.Halving.{goes_before, goes_behind, found, not_found, answered}
use Rattle.frames.proofs.find_page.Goals as goal

pub loop-left-preserved-then-n-rows : goal.loop-left-preserved-then-n-rows
loop-left-preserved-then-n-rows c = goes_before c.loop-left.invariant c.loop-left-test.true _ refl c.if-n-rows.true

pub loop-left-preserved : goal.loop-left-preserved
loop-left-preserved c = goes_behind c.loop-left.invariant c.loop-left-test.true _ refl (omega arith) (omega arith)

pub returns-then-n-rows-2 : goal.returns-then-n-rows-2
returns-then-n-rows-2 c =
    let args = c.args in
    rw c.saturating_sub.ensures
    (answered args.rows.now _ args.f _ c.number-n.ensures
    (found c.loop-left.invariant c.loop-left-test.true _ refl (omega arith) c.if-n-rows-2.true))

pub returns : goal.returns
returns c =
    let args = c.args in
    answered args.rows.now _ args.f _ c.number-n.ensures (not_found c.loop-left.invariant (omega (arith, c.loop-left-test.false)))
