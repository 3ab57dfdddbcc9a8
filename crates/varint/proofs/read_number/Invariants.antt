-- The groups read so far and the number that the rest gives are the whole number.
use Rattle.varint.proofs.Reading.{Reading}
use Rattle.varint.proofs.read_number.Given as goal

abbrev pub invariant-loop-i : goal.invariant-loop-i
invariant-loop-i l = Reading l.s l.at l.value l.scale l.i
