-- `one_order::covered_row` meets its contract. Assumes nothing.
use Rattle.finite.specs.Tests.{count}
use Rattle.bits.specs.Bit.{bit, width}
use Rattle.one_order.proofs.Covers.{Covering}
use Rattle.one_order.proofs.covered_row.Given as goal

abbrev pub invariant-loop-b : goal.invariant-loop-b
invariant-loop-b l = Covering l.rows l.k l.p l.a l.mine l.others l.rest

abbrev pub decreases-loop-b : goal.decreases-loop-b
decreases-loop-b l = count width (bit l.rest)
