-- The groups written so far and those of what is left are the number's form.
use native.Mathlib.Omega.{arith}
use Rattle.varint.proofs.Writing.{near, again, ended}
use Rattle.varint.proofs.write_number.Goals as goal

pub overflow_add-i : goal.overflow_add-i
overflow_add-i c = omega (arith, near _ _ _ _ _ _ c.loop-left.invariant, c.requires)

pub loop-left-preserved : goal.loop-left-preserved
loop-left-preserved c = again _ _ _ _ _ _ c.loop-left.invariant c.loop-left-test.true _ c.put.ensures

pub overflow_add-result : goal.overflow_add-result
overflow_add-result c = omega (arith, near _ _ _ _ _ _ c.loop-left.invariant, c.requires)

pub returns : goal.returns
returns c = ended _ _ _ _ _ _ c.loop-left.invariant c.loop-left-test.false _ c.put-2.ensures
