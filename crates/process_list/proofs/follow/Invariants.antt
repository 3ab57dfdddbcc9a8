-- The nodes so far, and those from where the loop stands, are all nodes.
use Rattle.resolution.specs.Open.{open_world}
use Rattle.process_list.proofs.Following.{Following}
use Rattle.process_list.proofs.follow.Given as goal

abbrev pub invariant-loop-count : goal.invariant-loop-count
invariant-loop-count l = Following (open_world l.case.case) l.head.address l.room l.initial.out l.count l.node.address l.out
