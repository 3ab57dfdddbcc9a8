-- The bytes before i are laid.
use Rattle.reading.proofs.Laying.{Copied}
use Rattle.reading.proofs.copy.Given as goal

abbrev pub invariant-loop-i : goal.invariant-loop-i
invariant-loop-i l = Copied l.initial.room l.bytes l.i l.room
