-- `one_order::as_first` meets its contract. Assumes nothing.
use Rattle.one_order.proofs.AlikeOrders.{compare_none, compare_next}
use Rattle.one_order.proofs.as_first.Goals as goal

pub loop-a-init : goal.loop-a-init
loop-a-init c =
    compare_none c.args.k c.args.rows.now c.args.p

pub loop-a-preserved : goal.loop-a-preserved
loop-a-preserved c =
    compare_next c.loop-a.invariant c.loop-a-test.true c.row.ensures c.row-in-loop-a.ensures c.differing-found.ensures
