-- Each run is judged after the last; one that touches it makes it longer, another counts by itself.
use Rattle.std.proofs.Common.{◌≡◌, length, get_or, arith, ◌∙◌, inl, inr}
use Rattle.std.proofs.lemmas.Result.{err_from_is_err_and}
use Rattle.joined_runs.specs.Inner.{given_run}
use Rattle.joined_runs.proofs.GivenRuns.{first}
use Rattle.joined_runs.proofs.Counting.{can_follow, cannot_follow, do_touch, are_apart, counting_first, next_below, bad_next, counting_touching, counting_apart, too_long, counted}
use Rattle.joined_runs.proofs.count_runs.Goals as goal

pub loop-start-init : goal.loop-start-init
loop-start-init c =
    let starts = c.args.runs.starts.now in
    let lengths = c.args.runs.lengths.now in
    let follows = can_follow 0 (given_run (get_or starts 0 0) (get_or lengths 0 0)) c.in_ok-last.last.run c.in_ok-last.ensures in
    rw (
      follows.1,
      c.into_iter-start-iterator.ensures.into_iter_gives,
      c.zip-start-items.ensures.first,
      c.iter.ensures.rest,
      c.zip-start-items.ensures.second.0,
    ) ((tt, tt), (tt, counting_first (first starts lengths c.args.runs.given) follows.0))

pub after-requires-in-loop-start : goal.after-requires-in-loop-start
after-requires-in-loop-start c = let e = c.in-Some.ensures.steps in next_below (rw (e.0, e.1) at c.loop-start.invariant.1.1)

pub returns-in_err-run : goal.returns-in_err-run
returns-in_err-run c =
    let e = c.in-Some.ensures.steps in
    let q = rw (e.0, e.1) at c.loop-start.invariant.1.1 in
    let bad = cannot_follow c.end.result _ c.in_err-run.field-0.0 c.in_err-run.ensures in
    let p = err_from_is_err_and c.from_residual-in_err-run.result c.from_residual-in_err-run.ensures.1 in
    rw (p.1, p.2, bad.1) (bad_next q (rw c.end.ensures at bad.0))

pub loop-start-preserved-in-Some-joined_with : goal.loop-start-preserved-in-Some-joined_with
loop-start-preserved-in-Some-joined_with c =
    let e = c.in-Some.ensures.steps in
    let q = rw (e.0, e.1) at c.loop-start.invariant.1.1 in
    let follows = can_follow c.end.result _ c.in_ok-run.run'.run c.in_ok-run.ensures in
    let touch = rw follows.1 at (do_touch c.loop-start.last.run c.in_ok-run.run'.run c.in-Some-joined_with.both.run c.in-Some-joined_with.ensures) in
    rw touch.1 ((tt, tt), (tt, counting_touching q (rw c.end.ensures at follows.0) touch.0))

pub loop-start-preserved : goal.loop-start-preserved
loop-start-preserved c =
    let e = c.in-Some.ensures.steps in
    let q = rw (e.0, e.1) at c.loop-start.invariant.1.1 in
    let follows = can_follow c.end.result _ c.in_ok-run.run'.run c.in_ok-run.ensures in
    let apart = rw follows.1 at (are_apart c.loop-start.last.run c.in_ok-run.run'.run c.in-None-joined_with.ensures) in
    rw follows.1 ((tt, tt), (tt, counting_apart q (rw c.end.ensures at follows.0) apart))

pub returns-then-last-ge-WHOLE : goal.returns-then-last-ge-WHOLE
returns-then-last-ge-WHOLE c =
    let q = c.loop-start.invariant.1.1 in
    let none : length c.loop-start.start-iterator.a.rest.now ≡ 0 = elim c.in-None.ensures.steps [ inl x ↦ x.1.0 | inr x ↦ q.alike ∙ x.1.0 ] in
    too_long q none (omega (arith, c.if-last-ge-WHOLE.true))

pub returns : goal.returns
returns c =
    let q = c.loop-start.invariant.1.1 in
    let none : length c.loop-start.start-iterator.a.rest.now ≡ 0 = elim c.in-None.ensures.steps [ inl x ↦ x.1.0 | inr x ↦ q.alike ∙ x.1.0 ] in
    counted q none (omega (arith, c.if-last-ge-WHOLE.false))
