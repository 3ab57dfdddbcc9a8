-- What is listed of the opened case is what the list call says of the case.
use Rattle.std.proofs.Common.{rules}
use Rattle.process_list.proofs.Answers.{list_answer}
use Rattle.process_list.proofs.process_list.Goals as goal

pub returns-in-Ok : goal.returns-in-Ok
returns-in-Ok c = rw c.in-Ok.is at (list_answer _ c.args.head _ _ _ _ c.with_case-listed.ensures (λ o lent left x h. search rules))

pub returns-in-Err : goal.returns-in-Err
returns-in-Err c = rw c.into.ensures (rw c.in-Err.is at (list_answer _ c.args.head _ _ _ _ c.with_case-listed.ensures (λ o lent left x h. search rules)))
