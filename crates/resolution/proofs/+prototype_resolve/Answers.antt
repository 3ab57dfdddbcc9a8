-- Resolving an address and following a prototype address call each other; the prototype entries left fall.
use mathlib.Core.Path.{sym, ap, ◌∙◌}
use native.Mathlib.Omega.{arith}
use Prim.Native.Nat.{◌-◌}
use Rattle.resolution.specs.Open.{open_world}
use Rattle.walk.specs.declared.Descent.{Descent}
use Rattle.walk.specs.declared.Resolved.{Resolved}
use Rattle.walk.proofs.Count.{few_levels, walk_count, resolve_count, prototype_count}
use Rattle.walk.proofs.Cycle.{not_reachable, needs_region, settled_entry, prototyped, unaligned, too_long, passed_up, judged_entry, word_found, placed_reach}
use Rattle.resolution.proofs.+prototype_resolve.Goals as goal

pub prototype-returns-then-target-ne0 : goal.prototype-returns-then-target-ne0
prototype-returns-then-target-ne0 t c = rw c.refused.ensures (unaligned _ (open_world c.args.case.now) _ _ c.if-target-ne0.true)

pub prototype-returns-then-left-eq0 : goal.prototype-returns-then-left-eq0
prototype-returns-then-left-eq0 t c = rw c.refused-then-left-eq0.ensures (too_long _ (open_world c.args.case.now) _ _ c.if-target-ne0.false c.if-left-eq0.true)

pub prototype-returns-in-Refused : goal.prototype-returns-in-Refused
prototype-returns-in-Refused t c =
    passed_up _ (open_world c.args.case.now) _ _ c.if-target-ne0.false c.if-left-eq0.false _ c.resolve-found.ensures _ c.in-Refused.is

pub prototype-word_at_place-e-requires : goal.prototype-word_at_place-e-requires
prototype-word_at_place-e-requires t c = word_found _ c.args.case.now.space _ _ _ _ _ c.resolve-found.ensures c.if-target-ne0.false

pub prototype-overflow_add-result : goal.prototype-overflow_add-result
prototype-overflow_add-result t c =
    omega (arith, c.requires, ap (λ (z : Resolved). z.entries) c.resolve-found.ensures, resolve_count (c.args.left - 1) (open_world c.args.case.now) c.args.target)

pub prototype-returns : goal.prototype-returns
prototype-returns t c =
    judged_entry _ (open_world c.args.case.now) _ _ c.if-target-ne0.false c.if-left-eq0.false _ c.resolve-found.ensures c.in_default.not-Refused _
    (rw (c.prototype_entry.ensures, c.word_at_place-e.ensures) at c.settle.ensures)

pub resolve-returns-then-not-is_reachable : goal.resolve-returns-then-not-is_reachable
resolve-returns-then-not-is_reachable t c =
    rw c.refused.ensures
    (not_reachable _ (open_world c.args.case.now) _ (placed_reach _ _ ∙ sym c.is_reachable.ensures ∙ c.if-not-is_reachable.true))

pub resolve-overflow_add-result : goal.resolve-overflow_add-result
resolve-overflow_add-result t c =
    let world = open_world c.args.case.now in
    omega (
      arith,
      c.requires,
      ap (λ (z : Descent). z.entries) c.descend-d.ensures,
      few_levels world.space.mode,
      walk_count world c.args.address,
      ap (λ (z : Resolved). z.entries) c.prototype-end.ensures,
      prototype_count c.args.left world c.args.address c.in-Prototype.target,
    )

pub resolve-returns-in-NeedsRegion : goal.resolve-returns-in-NeedsRegion
resolve-returns-in-NeedsRegion t c =
    rw c.refused-in-NeedsRegion.ensures
    (needs_region _ (open_world c.args.case.now) _ (placed_reach _ _ ∙ sym c.is_reachable.ensures ∙ c.if-not-is_reachable.false) _ c.descend-d.ensures c.in-NeedsRegion.is)

pub resolve-returns-in-Settled : goal.resolve-returns-in-Settled
resolve-returns-in-Settled t c =
    settled_entry _ (open_world c.args.case.now) _ (placed_reach _ _ ∙ sym c.is_reachable.ensures ∙ c.if-not-is_reachable.false) _ c.descend-d.ensures _ _
    c.in-Settled.is c.settle.ensures

pub resolve-returns-in-Prototype : goal.resolve-returns-in-Prototype
resolve-returns-in-Prototype t c =
    prototyped _ (open_world c.args.case.now) _ (placed_reach _ _ ∙ sym c.is_reachable.ensures ∙ c.if-not-is_reachable.false) _ c.descend-d.ensures _ _
    c.in-Prototype.is c.prototype-end.ensures
