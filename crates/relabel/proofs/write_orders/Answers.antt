use native.Mathlib.Omega.{arith}
use Rattle.relabel.proofs.Steps.{pulled_below}
use Rattle.relabel.proofs.Rows.{table-begun}
use Rattle.case.proofs.WriteOrders.{few-stores}
use Rattle.relabel.proofs.Parts.{write-small, write-part}
use Rattle.relabel.proofs.write_orders.Goals as goal

pub loop-y-init : goal.loop-y-init
loop-y-init c =
    table-begun _ _ _ (omega arith) (write-small c.args.r c.args.c.now.addresses c.args.c.now.events c.args.c.now.kind c.args.c.now.address c.args.c.now.writes (omega arith))

pub overflow_mul-from : goal.overflow_mul-from
overflow_mul-from c =
    omega (arith, pulled_below _ _ _ c.image-x.ensures (omega arith))

pub overflow_add-to : goal.overflow_add-to
overflow_add-to c =
    omega (arith, few-stores _ _ _ (omega arith) c.count_stores-count.ensures)

pub slice_bounds-out-end : goal.slice_bounds-out-end
slice_bounds-out-end c =
    omega (arith, few-stores _ _ _ (omega arith) c.count_stores-count.ensures, c.loop-y.invariant.long)

pub overflow_add-from : goal.overflow_add-from
overflow_add-from c =
    omega (arith, pulled_below _ _ _ c.image-x.ensures (omega arith), few-stores _ _ _ (omega arith) c.count_stores-count.ensures)

pub slice_bounds-copy_from_slice-end : goal.slice_bounds-copy_from_slice-end
slice_bounds-copy_from_slice-end c =
    omega (arith, pulled_below _ _ _ c.image-x.ensures (omega arith), few-stores _ _ _ (omega arith) c.count_stores-count.ensures)

pub loop-y-preserved : goal.loop-y-preserved
loop-y-preserved c =
    write-part c.args.r c.args.c.now.addresses c.args.c.now.events c.args.c.now.kind c.args.c.now.address c.args.c.now.writes _ _ c.loop-y.y _ c.loop-y.out _ c.loop-y.invariant (omega arith)
    c.requires.events_most c.image-x.ensures c.inverse-back.ensures c.count_stores-count.ensures (omega (arith, pulled_below _ _ _ c.image-x.ensures (omega arith), few-stores _ _ _ (omega arith) c.count_stores-count.ensures)) c.copy_from_slice.ensures.after
