-- The groups written so far and those of what is left are the number's form.
use Rattle.varint.proofs.Writing.{Going}
use Rattle.varint.proofs.write_number.Given as goal

abbrev pub invariant-loop-left : goal.invariant-loop-left
invariant-loop-left l = Going l.initial.out l.at l.n l.out l.left l.i

abbrev pub decreases-loop-left : goal.decreases-loop-left
decreases-loop-left l = l.left
