-- `case::check_write_order` meets its contract. Assumes nothing.
use Rattle.case.specs.Stores.{store_at}
use Rattle.case.proofs.WriteOrders.{Listing, entry}
use Rattle.case.proofs.check_write_order.Given as goal

abbrev pub invariant-loop-event : goal.invariant-loop-event
invariant-loop-event l = Listing l.c.events (store_at l.c.kind l.c.address l.x) (entry l.c.writes l.x) l.n l.listed l.event-index
