-- `by_columns::Orders::fenced` meets its contract. Assumes nothing.
use Rattle.rows.proofs.Loops.{empty, joins, united}
use Rattle.by_columns.proofs.Orders.fenced.Goals as goal

pub loop-p-init : goal.loop-p-init
loop-p-init c =
    search empty

pub loop-p-preserved : goal.loop-p-preserved
loop-p-preserved c =
    joins c.loop-p.invariant c.loop-p-test.true c.fenced_order-found.ensures

pub returns : goal.returns
returns c =
    united c.loop-p.invariant c.loop-p-test.false
