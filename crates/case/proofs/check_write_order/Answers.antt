-- `case::check_write_order` meets its contract. Assumes nothing.
use native.Mathlib.Omega.{arith}
use Prim.Native.Nat.{◌+◌, ◌*◌, ◌≤◌}
use Rattle.case.proofs.WriteOrders.{listing-begun, listing_done, no-event, not-unlisted, one-listed, of_order, few-stores, part_length, part_get}
use Rattle.case.proofs.check_write_order.Goals as goal

pub overflow_add-event-items : goal.overflow_add-event-items
overflow_add-event-items c =
    record { fits = omega (arith, few-stores _ _ _ c.requires.0 c.count_stores-n.ensures) }

pub slice_bounds-event-items-end : goal.slice_bounds-event-items-end
slice_bounds-event-items-end c =
    let few = few-stores _ _ _ c.requires.0 c.count_stores-n.ensures in
    let within : c.args.x * 64 + c.count_stores-n.result ≤ 256 = omega arith in
    within

pub loop-event-init : goal.loop-event-init
loop-event-init c =
    listing-begun _ _ _ _

pub returns-then-c-e : goal.returns-then-c-e
returns-then-c-e c =
    let few = few-stores _ _ _ c.requires.0 c.count_stores-n.ensures in
    let long = part_length c.args.c.now.writes c.args.x c.count_stores-n.result (omega arith) c.requires.1 few in
    of_order _ _ _ _ _ _ _ c.count_stores-n.ensures
    (no-event _ _ _ _ _ _ c.loop-event.invariant (omega arith) _
    (part_get c.args.c.now.writes c.args.x c.count_stores-n.result (omega arith) c.requires.1 few _ _ c.from-e.ensures c.loop-event-test.true) c.if-c-e.true)

pub returns-then-not-unlisted : goal.returns-then-not-unlisted
returns-then-not-unlisted c =
    let few = few-stores _ _ _ c.requires.0 c.count_stores-n.ensures in
    let long = part_length c.args.c.now.writes c.args.x c.count_stores-n.result (omega arith) c.requires.1 few in
    of_order _ _ _ _ _ _ _ c.count_stores-n.ensures
    (not-unlisted _ _ _ _ _ _ c.loop-event.invariant (omega arith) _
    (part_get c.args.c.now.writes c.args.x c.count_stores-n.result (omega arith) c.requires.1 few _ _ c.from-e.ensures c.loop-event-test.true) c.if-c-e.false
    _ c.unlisted.ensures c.if-not-unlisted.true)

pub loop-event-preserved : goal.loop-event-preserved
loop-event-preserved c =
    let few = few-stores _ _ _ c.requires.0 c.count_stores-n.ensures in
    let long = part_length c.args.c.now.writes c.args.x c.count_stores-n.result (omega arith) c.requires.1 few in
    one-listed _ _ _ _ _ _ c.loop-event.invariant (omega arith) _
    (part_get c.args.c.now.writes c.args.x c.count_stores-n.result (omega arith) c.requires.1 few _ _ c.from-e.ensures c.loop-event-test.true) c.if-c-e.false
    _ c.unlisted.ensures _ c.with-listed.ensures c.if-not-unlisted.false

pub returns : goal.returns
returns c =
    let few = few-stores _ _ _ c.requires.0 c.count_stores-n.ensures in
    let long = part_length c.args.c.now.writes c.args.x c.count_stores-n.result (omega arith) c.requires.1 few in
    of_order _ _ _ _ _ _ _ c.count_stores-n.ensures (listing_done _ _ _ _ _ _ c.loop-event.invariant (omega arith))
