-- No word so far begins a block, so the first block from there on is the first of all.
use Rattle.std.proofs.Common.{◌+◌, ◌*◌}
use Rattle.resolution.specs.Open.{open_world}
use Rattle.processor_block.proofs.Searching.{Searching}
use Rattle.processor_block.proofs.search.Given as goal

abbrev pub invariant-loop-four : goal.invariant-loop-four
invariant-loop-four l = Searching (open_world l.case) l.from (l.first + 4 * l.four)
