-- What was found, or what is at fault, keeps the promise.
use Rattle.std.proofs.Common.{sym, ap}
use Rattle.lookup.proofs.Answers.{promised}
use Rattle.lookup.proofs.WholeMap.{told}
use Rattle.lookup.proofs.lookup.Goals as goal

pub returns-in-Ok : goal.returns-in-Ok
returns-in-Ok c = promised _ _ _ _ c.look_up.ensures (sym (ap told c.in-Ok.is))

pub returns-in-Err : goal.returns-in-Err
returns-in-Err c = promised _ _ _ _ c.look_up.ensures (rw c.into.ensures (sym (ap told c.in-Err.is)))
