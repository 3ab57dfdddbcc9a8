-- The loop keeps `SumTo`; at the last page it is the whole sum.
use Rattle.std.proofs.Common.{arith}
use Rattle.bench_walk.proofs.Sums.{sum_next, sum_all}
use Rattle.bench_walk.proofs.bench_walk_pages.Goals as goal

pub loop-i-preserved : goal.loop-i-preserved
loop-i-preserved c = sum_next _ _ _ _ _ _ _ c.loop-i.invariant c.loop-i-test.true (rw c.resolve-found.ensures at c.image_offset-sum.ensures)

pub returns : goal.returns
returns c = rw c.open_case-case.ensures at (sum_all _ _ _ _ _ _ c.loop-i.invariant (omega arith))
