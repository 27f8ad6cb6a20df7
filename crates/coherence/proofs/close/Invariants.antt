-- `coherence::close` meets its contract. Assumes nothing.
use Rattle.coherence.proofs.Loops.{Reached}
use Rattle.coherence.proofs.close.Given as goal

abbrev pub invariant-loop-j : goal.invariant-loop-j
invariant-loop-j l = Reached l.k l.initial.before l.before l.j
