-- The loop keeps `Looking`: what is left to read, with the answer so far, gives the answer of the whole.
use Rattle.lookup.proofs.ManyExtents.{Looking}
use Rattle.lookup.proofs.read_page.Given as goal

abbrev pub invariant-loop-left : goal.invariant-loop-left
invariant-loop-left l = Looking l.s l.from l.count l.k l.at l.left l.prev l.noted

abbrev pub decreases-loop-left : goal.decreases-loop-left
decreases-loop-left l = l.left
