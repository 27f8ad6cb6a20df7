-- `columns::turn_each` meets its contract. Assumes nothing.
use Rattle.columns.proofs.Turns.{Turns}
use Rattle.columns.proofs.turn_each.Given as goal

abbrev pub invariant-loop-p : goal.invariant-loop-p
invariant-loop-p l = Turns l.initial.out l.n l.count l.p l.out
