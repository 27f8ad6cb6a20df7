-- `one_order::final_part` meets its contract. Assumes nothing.
use Rattle.rows.specs.Sets.{order_in}
use Rattle.one_order.specs.FinalParts.{FinalPart}
use Rattle.one_order.proofs.final_part.Given as goal

abbrev pub invariant-loop-i : goal.invariant-loop-i
invariant-loop-i l = FinalPart l.k (order_in l.rows l.p) l.part
