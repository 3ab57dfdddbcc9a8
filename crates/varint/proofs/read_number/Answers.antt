-- The groups read so far and the number that the rest gives are the whole number.
use Prim.Native.Nat.{◌-◌}
use native.Mathlib.Omega.{arith}
use Rattle.varint.proofs.Reading.{starts, none_left, scale_small, fits, at_end, short, last, again}
use Rattle.varint.proofs.read_number.Goals as goal
use Rattle.varint.proofs.read_number.Goals.{else-group-eq0-via-then-group-eq0+else-i-gt0, else-group-eq0-via-else-group-eq0}

pub loop-i-init : goal.loop-i-init
loop-i-init c = starts c.args.s.now c.args.at

pub returns-then-i-gt0 : goal.returns-then-i-gt0
returns-then-i-gt0 c =
    rw c.fault_at.ensures
    (short c.loop-i.invariant _ c.bytes_from-b-items.ensures c.loop-i-test.true _ c.from-group.ensures c.if-group-lt128.true c.if-group-eq0.true c.if-i-gt0.true)

pub overflow_mul-result : goal.overflow_mul-result
overflow_mul-result c = omega (arith, fits c.loop-i.invariant c.from-group.result (omega arith))

pub overflow_add-result : goal.overflow_add-result
overflow_add-result c = omega (arith, fits c.loop-i.invariant c.from-group.result (omega arith))

pub returns-then-group-lt128 : goal.returns-then-group-lt128
returns-then-group-lt128 c =
    last c.loop-i.invariant _ c.bytes_from-b-items.ensures c.loop-i-test.true _ c.from-group.ensures c.if-group-lt128.true
    (elim c.else-group-eq0.branch [ else-group-eq0-via-then-group-eq0+else-i-gt0 w ↦ omega arith | else-group-eq0-via-else-group-eq0 w ↦ omega arith ])

pub returns-then-i-eq-MOST_GROUPS : goal.returns-then-i-eq-MOST_GROUPS
returns-then-i-eq-MOST_GROUPS c =
    let k = c.if-i-eq-MOST_GROUPS in
    rw c.fault_at-then-i-eq-MOST_GROUPS.ensures
    (none_left c.loop-i.invariant _ c.bytes_from-b-items.ensures c.loop-i-test.true _ c.from-group.ensures c.if-group-lt128.false c.if-i-eq-MOST_GROUPS.true)

pub overflow_mul-value : goal.overflow_mul-value
overflow_mul-value c = omega (arith, fits c.loop-i.invariant (c.from-group.result - 128) (omega (arith, c.type_inv.b-items c.loop-i.i)))

pub overflow_add-value : goal.overflow_add-value
overflow_add-value c = omega (arith, fits c.loop-i.invariant (c.from-group.result - 128) (omega (arith, c.type_inv.b-items c.loop-i.i)))

pub overflow_mul-scale : goal.overflow_mul-scale
overflow_mul-scale c = omega (arith, scale_small c.loop-i.invariant)

pub loop-i-preserved : goal.loop-i-preserved
loop-i-preserved c =
    again c.loop-i.invariant _ c.bytes_from-b-items.ensures c.loop-i-test.true _ c.from-group.ensures c.if-group-lt128.false (omega (arith, c.type_inv.b-items c.loop-i.i)) c.if-i-eq-MOST_GROUPS.false

pub returns : goal.returns
returns c = rw c.fault_at-2.ensures (at_end c.loop-i.invariant _ c.bytes_from-b-items.ensures c.loop-i-test.false)
