-- `one_order::as_first` meets its contract. Assumes nothing.
use Rattle.one_order.proofs.AlikeOrders.{Compared}
use Rattle.one_order.proofs.as_first.Given as goal

abbrev pub invariant-loop-a : goal.invariant-loop-a
invariant-loop-a l = Compared l.k l.rows l.p l.a l.found
