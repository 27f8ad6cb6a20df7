-- `columns::swap_block` meets its contract. Assumes nothing.
use Rattle.columns.proofs.Turns.{Swapping}
use Rattle.columns.proofs.swap_block.Given as goal

abbrev pub invariant-loop-t : goal.invariant-loop-t
invariant-loop-t l = Swapping l.s l.first l.end l.t l.initial.part l.part
