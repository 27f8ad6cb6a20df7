-- `one_order::by_size` meets its contract. Assumes nothing.
use Rattle.one_order.proofs.FinalParts.{Naming}
use Rattle.one_order.proofs.by_size.Given as goal

abbrev pub invariant-loop-a : goal.invariant-loop-a
invariant-loop-a l = Naming l.k l.a l.out
