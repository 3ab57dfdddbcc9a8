-- A page at a time: the bytes so far, and those from where the loop stands, are all bytes.
use Prim.Native.Nat.{◌-◌}
use Rattle.resolution.specs.Open.{open_world}
use Rattle.reading.proofs.PageBytes.{Filling}
use Rattle.reading.proofs.fill.Given as goal

abbrev pub invariant-loop-i : goal.invariant-loop-i
invariant-loop-i l = Filling (open_world l.case) l.address l.n l.initial.out l.i l.zeros l.out

abbrev pub decreases-loop-i : goal.decreases-loop-i
decreases-loop-i l = l.n - l.i
