-- The sum so far, and that of the pages left, are the whole sum.
use Rattle.std.proofs.Common.{◌-◌}
use Rattle.resolution.specs.Open.{open_world}
use Rattle.bench_walk.proofs.Sums.{SumTo}
use Rattle.bench_walk.proofs.bench_walk_pages.Given as goal

abbrev pub invariant-loop-i : goal.invariant-loop-i
invariant-loop-i l = SumTo (open_world l.case) l.start l.pages l.sum l.a (l.pages - l.i)
