-- `area::clear` meets its contract. Assumes nothing.
use Rattle.area.proofs.Clearing.{Clearing}
use Rattle.area.proofs.clear.Given as goal

abbrev pub invariant-loop-i : goal.invariant-loop-i
invariant-loop-i l = Clearing l.initial.area l.from l.allowed l.area l.i l.stores
