-- `coherence::by_way_of` meets its contract. Assumes nothing.
use Rattle.coherence.proofs.Loops.{Joins}
use Rattle.coherence.proofs.by_way_of.Given as goal

abbrev pub invariant-loop-b : goal.invariant-loop-b
invariant-loop-b l = Joins l.k l.j l.pivot l.initial.before l.before l.b
