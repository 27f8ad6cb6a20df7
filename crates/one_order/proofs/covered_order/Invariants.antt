-- `one_order::covered_order` meets its contract. Assumes nothing.
use Rattle.rows.specs.Sets.{order_in}
use Rattle.one_order.proofs.Covers.{CoveredTo}
use Rattle.one_order.proofs.covered_order.Given as goal

abbrev pub invariant-loop-a : goal.invariant-loop-a
invariant-loop-a l = CoveredTo l.k (order_in l.rows l.p) l.a
