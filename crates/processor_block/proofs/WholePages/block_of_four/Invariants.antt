-- No word so far begins a block, so the first block from there on is the first from the first of the four.
use Rattle.std.proofs.Common.{◌*◌}
use Rattle.resolution.specs.Open.{open_world}
use Rattle.processor_block.proofs.Searching.{Searching}
use Rattle.processor_block.proofs.WholePages.block_of_four.Given as goal

abbrev pub invariant-loop-word : goal.invariant-loop-word
invariant-loop-word l = Searching (open_world l.self.case) (8 * l.i) l.word
