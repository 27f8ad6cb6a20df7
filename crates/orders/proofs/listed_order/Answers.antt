-- `orders::listed_order` meets its contract. Assumes nothing.
use Rattle.rows.proofs.Each.{pass_fails, pass_end}
use Rattle.orders.proofs.listed_order.Goals as goal

pub returns-then-not-listed_event : goal.returns-then-not-listed_event
returns-then-not-listed_event c =
    pass_fails c.loop-a.invariant c.in-Some.ensures.steps c.listed_event.ensures c.if-not-listed_event.true

pub returns : goal.returns
returns c =
    pass_end c.loop-a.invariant c.in-None.ensures.steps
