-- `orders::listed_order` meets its contract. Assumes nothing.
use Rattle.bits.specs.Bit.{bit}
use Rattle.rows.specs.Sets.{order_in, set_in}
use Rattle.rows.proofs.Each.{Passed}
use Rattle.orders.specs.Parts.{listed}
use Rattle.orders.proofs.listed_order.Given as goal

abbrev pub invariant-loop-a : goal.invariant-loop-a
invariant-loop-a l = Passed l.k l.own (listed l.k (bit l.own) (bit l.barriers) (set_in l.partners) (set_in l.dependents) (order_in l.asked l.p)) l.a-iterator
