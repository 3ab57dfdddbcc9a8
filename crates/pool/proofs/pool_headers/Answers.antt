-- The promise follows from the equation.
use Rattle.pool.proofs.Meaning.{promise}
use Rattle.pool.proofs.pool_headers.Goals as goal

pub returns-in-Ok : goal.returns-in-Ok
returns-in-Ok c = promise _ _ _ _ c.in-Ok.ensures

pub returns-in-Err : goal.returns-in-Err
returns-in-Err c = promise _ _ _ _ (rw c.into.ensures c.in-Err.ensures)
