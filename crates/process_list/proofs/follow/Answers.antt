-- The nodes so far, and those from where the loop stands, are all nodes.
use Rattle.std.proofs.Common.{rules, ◌≡◌, Err, arith}
use Rattle.process_list.proofs.Following.{link_broken, back_at_head, no_room, node_listed, last_broken, last_at_head, one_too_many}
use Rattle.process_list.proofs.follow.Goals as goal

pub returns-in_err-next : goal.returns-in_err-next
returns-in_err-next c =
    let e : c.from_residual.result ≡ Err c.in_err-next.field-0.0 = search rules in
    rw e (link_broken c.loop-count.invariant _ c.next_node.ensures c.loop-count-test.true _ c.in_err-next.was)

pub returns-then-next-head : goal.returns-then-next-head
returns-then-next-head c = back_at_head c.loop-count.invariant _ c.next_node.ensures c.loop-count-test.true _ c.in_ok-next.was c.if-next-head.true

pub returns-then-count-room : goal.returns-then-count-room
returns-then-count-room c =
    no_room c.loop-count.invariant _ c.next_node.ensures c.loop-count-test.true _ c.in_ok-next.was c.if-next-head.false c.if-count-room.true

pub loop-count-preserved : goal.loop-count-preserved
loop-count-preserved c =
    node_listed c.loop-count.invariant _ c.next_node.ensures c.loop-count-test.true _ c.in_ok-next.was c.if-next-head.false c.if-count-room.false _
    c.put.ensures

pub returns-in_err-next-2 : goal.returns-in_err-next-2
returns-in_err-next-2 c =
    let e : c.from_residual-in_err-next-2.result ≡ Err c.in_err-next-2.field-0.0 = search rules in
    rw e (last_broken c.loop-count.invariant _ c.next_node-2.ensures (omega arith) _ c.in_err-next-2.was)

pub returns-then-next-head-2 : goal.returns-then-next-head-2
returns-then-next-head-2 c = last_at_head c.loop-count.invariant _ c.next_node-2.ensures (omega arith) _ c.in_ok-next-2.was c.if-next-head-2.true

pub returns : goal.returns
returns c = one_too_many c.loop-count.invariant _ c.next_node-2.ensures (omega arith) _ c.in_ok-next-2.was c.if-next-head-2.false
