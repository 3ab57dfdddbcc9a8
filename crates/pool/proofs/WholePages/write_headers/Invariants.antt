-- The headers before word i are laid; at the last word they are all.
use Rattle.pool.proofs.Listing.{Laying}
use Rattle.pool.proofs.WholePages.write_headers.Given as goal

abbrev pub invariant-loop-i : goal.invariant-loop-i
invariant-loop-i l = Laying l.self.image.now l.initial.out l.i l.count l.out
