-- `orders::rule14` meets its contract. Assumes nothing.
use Rattle.bits.specs.Bit.{bit}
use Rattle.rows.specs.Sets.{order_in, store_in}
use Rattle.rows.proofs.Each.{Passed}
use Rattle.orders.specs.Parts.{coherent, written_in}
use Rattle.orders.proofs.rule14.Given as goal

abbrev pub invariant-loop-a : goal.invariant-loop-a
invariant-loop-a l = Passed l.k l.stores (coherent l.k l.n (bit l.stores) (store_in l.stores l.partners) (written_in l.k l.stores l.partners l.addresses l.writes) (order_in l.known)) l.a-iterator
