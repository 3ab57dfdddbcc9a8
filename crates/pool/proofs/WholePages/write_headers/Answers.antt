-- The headers before word i are laid; at the last word they are all.
use native.Mathlib.Omega.{arith}
use Rattle.pool.proofs.Listing.{laying_few, all_laid}
use Rattle.pool.proofs.WholePages.write_headers.Goals as goal

pub overflow_add-count : goal.overflow_add-count
overflow_add-count c = omega (arith, laying_few c.loop-i.invariant c.args.self.whole)

pub returns : goal.returns
returns c = all_laid c.loop-i.invariant c.args.self.whole (omega arith)
