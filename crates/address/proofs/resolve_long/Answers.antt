-- What the opened case answers is what the address call says of the case.
use Rattle.std.proofs.Common.{rules}
use Rattle.address.proofs.Answers.{answered}
use Rattle.address.proofs.resolve_long.Goals as goal

pub returns-in-Ok : goal.returns-in-Ok
returns-in-Ok c = rw c.in-Ok.is at (answered _ c.args.address _ _ _ _ c.with_case-answer.ensures (λ o lent left x h. search rules))

pub returns-in-Err : goal.returns-in-Err
returns-in-Err c = rw c.into.ensures (rw c.in-Err.is at (answered _ c.args.address _ _ _ _ c.with_case-answer.ensures (λ o lent left x h. search rules)))
