-- `rows::dependents` meets its contract. Assumes nothing.
use Rattle.rows.proofs.Loops.{Linked}
use Rattle.rows.proofs.dependents.Given as goal

abbrev pub invariant-loop-i : goal.invariant-loop-i
invariant-loop-i l = Linked l.froms l.tos l.count l.i l.out

-- the events of the dependency at hand
