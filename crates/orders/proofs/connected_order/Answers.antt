-- `orders::connected_order` meets its contract. Assumes nothing.
use Rattle.rows.proofs.Each.{pass_fails, pass_end}
use Rattle.orders.proofs.connected_order.Goals as goal

pub returns-then-not-connected_event : goal.returns-then-not-connected_event
returns-then-not-connected_event c =
    pass_fails c.loop-a.invariant c.in-Some.ensures.steps c.connected_event.ensures c.if-not-connected_event.true

pub returns : goal.returns
returns c =
    pass_end c.loop-a.invariant c.in-None.ensures.steps
