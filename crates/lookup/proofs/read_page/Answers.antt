-- The loop keeps `Looking`: what is left to read, with the answer so far, gives the answer of the whole.
use Rattle.std.proofs.Common.{rules, ◌≡◌, Err, arith}
use Rattle.varint.proofs.Fields.{value_got, refused_bad}
use Rattle.map_format.proofs.OneExtent.{extent_keeps}
use Rattle.lookup.proofs.ManyExtents.{starts, no_extent_read, again, trailing, answered, holds, held_below}
use Rattle.lookup.proofs.read_page.Goals as goal

pub loop-left-init : goal.loop-left-init
loop-left-init c = let given = c.args in starts given.s.now given.from given.count given.k

pub returns-in_err-e-clause-same : goal.returns-in_err-e-clause-same
returns-in_err-e-clause-same c =
    let e : c.from_residual.result ≡ Err c.in_err-e.field-0.0 = search rules in
    rw e (no_extent_read c.loop-left.invariant (omega arith) _ (refused_bad _ _ _ c.read_extent.ensures c.in_err-e.was))

pub overflow_sub-count : goal.overflow_sub-count
overflow_sub-count c = c.loop-left.invariant.part

pub overflow_sub-left : goal.overflow_sub-left
overflow_sub-left c = (extent_keeps _ _ _ _ _ _ (value_got _ _ _ _ c.read_extent.ensures c.in_ok-e.was)).most

pub loop-left-smaller : goal.loop-left-smaller
loop-left-smaller c = omega (arith, (extent_keeps _ _ _ _ _ _ (value_got _ _ _ _ c.read_extent.ensures c.in_ok-e.was)).rules.some)

pub loop-left-preserved : goal.loop-left-preserved
loop-left-preserved c =
    let taken = value_got _ _ _ _ c.read_extent.ensures c.in_ok-e.was in
    rw c.note-noted.ensures (again c.loop-left.invariant (omega arith) _ _ taken)

pub returns-then-at-s-clause-same : goal.returns-then-at-s-clause-same
returns-then-at-s-clause-same c = rw c.into.ensures (trailing c.loop-left.invariant (omega arith) c.if-at-s.true)

pub returns-clause-same : goal.returns-clause-same
returns-clause-same c = rw c.page-page.ensures (answered c.loop-left.invariant (omega arith) c.requires c.if-at-s.false)

pub returns-clause-low : goal.returns-clause-low
returns-clause-low c = rw c.page-page.ensures (held_below _ (holds c.loop-left.invariant (omega arith) c.requires))
