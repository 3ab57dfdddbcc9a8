-- The next byte is laid, and at the end all are.
use native.Mathlib.Omega.{arith}
use Rattle.reading.proofs.Laying.{none_copied, next_copied, all_copied}
use Rattle.reading.proofs.copy.Goals as goal

pub loop-i-init : goal.loop-i-init
loop-i-init c = none_copied _ _

pub bounds-bytes-i : goal.bounds-bytes-i
bounds-bytes-i c = omega (arith, c.requires)

pub bounds-room-i : goal.bounds-room-i
bounds-room-i c = omega (arith, c.loop-i.invariant.long)

pub loop-i-preserved : goal.loop-i-preserved
loop-i-preserved c = next_copied c.loop-i.invariant (omega (arith, c.requires))

pub returns : goal.returns
returns c = all_copied c.loop-i.invariant (omega (arith, c.requires)) c.requires
