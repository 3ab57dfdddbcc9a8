-- What is found in the opened case is what the search says of the case.
use Rattle.std.proofs.Common.{rules}
use Rattle.processor_block.proofs.Answers.{may_search, block_answer}
use Rattle.processor_block.proofs.processor_block.Goals as goal

pub with_case-found-requires : goal.with_case-found-requires
with_case-found-requires c = may_search _ _ (λ o l lent e. l)

pub returns-in-Ok : goal.returns-in-Ok
returns-in-Ok c = rw c.in-Ok.is at (block_answer _ c.args.from _ _ _ _ c.with_case-found.ensures (λ o lent left x h. search rules))

pub returns-in-Err : goal.returns-in-Err
returns-in-Err c = rw c.into.ensures (rw c.in-Err.is at (block_answer _ c.args.from _ _ _ _ c.with_case-found.ensures (λ o lent left x h. search rules)))
