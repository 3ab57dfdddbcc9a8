-- The loop keeps `Counting`: what was joined so far, before the runs still to come, is the whole.
use Rattle.std.specs.Iterator.Adapters.{zip_first, zip_second}
use Rattle.std.specs.Slice.Iter.{iter_rest}
use Rattle.sheet_limits.specs.Write.{runs_of}
use Rattle.joined_runs.proofs.Counting.{Counting}
use Rattle.joined_runs.proofs.count_runs.Given as goal

abbrev pub invariant-loop-start : goal.invariant-loop-start
invariant-loop-start l =
    (goal.iterator-loop-start).can_next l.start-iterator
    × ((goal.iterator-loop-start).is_finite l.start-iterator
    × Counting (runs_of l.runs.starts.now l.runs.lengths.now) l.last.run l.count (iter_rest (zip_first l.start-iterator)) (iter_rest (zip_second l.start-iterator)))
