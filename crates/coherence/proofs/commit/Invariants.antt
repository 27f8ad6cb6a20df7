-- `coherence::commit` meets its contract. Assumes nothing.
use Rattle.coherence.proofs.Loops.{Commits}
use Rattle.coherence.proofs.commit.Given as goal

abbrev pub invariant-loop-b : goal.invariant-loop-b
invariant-loop-b l = Commits l.k l.y l.added l.initial.before l.before l.b
