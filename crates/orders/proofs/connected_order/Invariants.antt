-- `orders::connected_order` meets its contract. Assumes nothing.
use Rattle.bits.specs.Bit.{bit}
use Rattle.rows.specs.Sets.{order_in}
use Rattle.rows.proofs.Each.{Passed}
use Rattle.orders.specs.Parts.{connected}
use Rattle.orders.proofs.connected_order.Given as goal

abbrev pub invariant-loop-a : goal.invariant-loop-a
invariant-loop-a l = Passed l.k l.own (connected l.k (bit l.own) (order_in l.asked l.p)) l.a-iterator
