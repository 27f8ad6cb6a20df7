-- `transitions::State::with_separated` meets its contract. Assumes nothing.
use Rattle.transitions.proofs.Commits.{Separates}
use Rattle.transitions.proofs.State.with_separated.Given as goal

abbrev pub invariant-loop-b : goal.invariant-loop-b
invariant-loop-b l = Separates l.c l.initial.out l.out l.b
