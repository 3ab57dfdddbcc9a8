-- No word so far begins a block, so the first block from there on is the first from the first of the four.
use Rattle.std.proofs.Common.{sym, ◌∙◌, arith}
use Rattle.processor_block.proofs.Searching.{none_at, found_at, begins_at, onward, at_word}
use Rattle.processor_block.proofs.WholePages.block_of_four.Goals as goal

pub loop-word-init : goal.loop-word-init
loop-word-init c = begins_at _ c.args.i

pub returns-in-Some : goal.returns-in-Some
returns-in-Some c = found_at _ c.loop-word.invariant _ (omega arith) (sym c.block_at.ensures ∙ c.in-Some.is)

pub loop-word-preserved : goal.loop-word-preserved
loop-word-preserved c = none_at _ c.loop-word.invariant (sym c.block_at.ensures ∙ c.in_default.is)

pub returns : goal.returns
returns c = onward _ (at_word _ (omega arith) c.loop-word.invariant)
