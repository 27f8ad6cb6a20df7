-- `case::check_write_orders` meets its contract. Assumes nothing.
use Rattle.case.specs.Stores.{store_at, writes_at}
use Rattle.case.proofs.WriteOrders.{Faultless}
use Rattle.case.proofs.check_write_orders.Given as goal

abbrev pub invariant-loop-x : goal.invariant-loop-x
invariant-loop-x l = Faultless l.c.events (store_at l.c.kind l.c.address) (writes_at l.c.kind l.c.address l.c.writes l.c.events) l.c.addresses l.x
