-- The loop keeps `Writing`: what is written so far, before the last run and the runs still to come, is the whole.
use Rattle.std.proofs.Common.{◌≡◌, length, refl, ◌∙◌, inl, inr}
use Rattle.joined_runs.proofs.GivenRuns.{first}
use Rattle.sheet_bytes.proofs.Writing.{first_top, writing_first, writing_room, next_top, writing_next, all_written}
use Rattle.sheet_bytes.proofs.write_runs.Goals as goal

pub given-requires : goal.given-requires
given-requires c = first_top (first c.args.runs.starts.now c.args.runs.lengths.now c.args.runs.given) c.requires.1

pub loop-start-init : goal.loop-start-init
loop-start-init c =
    let starts = c.args.runs.starts.now in
    let lengths = c.args.runs.lengths.now in
    rw (
      c.into_iter-start-iterator.ensures.into_iter_gives,
      c.zip-start-items.ensures.first,
      c.iter.ensures.rest,
      c.zip-start-items.ensures.second.0,
    ) ((tt, tt), (tt, writing_first (first starts lengths c.args.runs.given) c.requires.1 _ _ _ refl refl c.given.ensures))

pub given-requires-in-loop-start : goal.given-requires-in-loop-start
given-requires-in-loop-start c = let e = c.in-Some.ensures.steps in next_top (rw (e.0, e.1) at c.loop-start.invariant.1.1)

pub push-writer-requires : goal.push-writer-requires
push-writer-requires c = writing_room c.loop-start.invariant.1.1 c.requires.0

pub loop-start-preserved : goal.loop-start-preserved
loop-start-preserved c =
    let e = c.in-Some.ensures.steps in
    let q = rw (e.0, e.1) at c.loop-start.invariant.1.1 in
    ((tt, tt), (tt, writing_next q (rw c.given-in-loop-start.ensures at c.push-writer.ensures)))

pub finish-requires : goal.finish-requires
finish-requires c = writing_room c.loop-start.invariant.1.1 c.requires.0

pub returns : goal.returns
returns c =
    let q = c.loop-start.invariant.1.1 in
    let none : length c.loop-start.start-iterator.a.rest.now ≡ 0 = elim c.in-None.ensures.steps [ inl x ↦ x.1.0 | inr x ↦ q.alike ∙ x.1.0 ] in
    all_written q none c.finish.ensures
