-- The bytes that were read, or what is at fault.
use Rattle.reading.proofs.TwoPasses.{read_answer, told}
use Rattle.reading.proofs.read_bytes.Goals as goal

pub returns-in-Ok : goal.returns-in-Ok
returns-in-Ok c = rw (c.from.ensures, told c.in-Ok.zeros) (rw c.in-Ok.is at (read_answer _ _ _ _ _ _ c.read_case.ensures))

pub returns-in-Err : goal.returns-in-Err
returns-in-Err c = rw c.into.ensures (rw c.in-Err.is at (read_answer _ _ _ _ _ _ c.read_case.ensures))
