-- `columns::turn` meets its contract. Assumes nothing.
use Rattle.columns.proofs.Turns.{Turning}
use Rattle.columns.proofs.turn.Given as goal

abbrev pub invariant-loop-s : goal.invariant-loop-s
invariant-loop-s l = Turning l.count l.s l.initial.part l.part
