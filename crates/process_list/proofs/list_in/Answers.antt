-- The first pass has no room to write in; the second lays what the first found.
use Rattle.std.proofs.Common.{rules, ◌≡◌, Err, refl, ◌∙◌}
use Rattle.base.specs.Refusal.{unplaced}
use Rattle.process_list.proofs.Answers.{served_mode, unaligned_head, aligned_head, refused_list, whole_list}
use Rattle.process_list.proofs.list_in.Goals as goal

pub invariant_of-four : goal.invariant_of-four
invariant_of-four c = record { four = served_mode _ _ c.args.head c.args.out.now _ c.four_levels_case.ensures _ c.in_ok-case.was refl }

pub returns-in_err-head : goal.returns-in_err-head
returns-in_err-head c =
    let e : c.from_residual-in_err-head.result ≡ Err (unplaced c.in_err-head.field-0.0) = search rules in
    rw e (unaligned_head _ _ _ _ _ c.four_levels_case.ensures _ c.in_ok-case.was _ c.try_from.ensures _ c.in_err-head.was)

pub returns-in_err-follow : goal.returns-in_err-follow
returns-in_err-follow c =
    let e : c.from_residual-in_err-follow.result ≡ Err (unplaced c.in_err-follow.field-0.0) = search rules in
    let head = aligned_head _ _ _ _ _ c.four_levels_case.ensures _ c.in_ok-case.was _ c.try_from.ensures _ c.in_ok-head.was in
    rw e (refused_list _ _ _ _ c.follow.ensures _ c.in_err-follow.was ∙ head)

pub returns : goal.returns
returns c =
    let head = aligned_head _ _ _ _ _ c.four_levels_case.ensures _ c.in_ok-case.was _ c.try_from.ensures _ c.in_ok-head.was in
    whole_list _ _ _ _ c.follow.ensures _ _ c.follow-2.ensures _ c.in_ok-follow-2.was ∙ head
