-- `coherence::irreflexive` meets its contract. Assumes nothing.
use mathlib.Core.Bool.{not}
use Rattle.finite.proofs.Loops.{Passed}
use Rattle.storage.specs.Held.{edge_in}
use Rattle.coherence.proofs.irreflexive.Given as goal

abbrev pub invariant-loop-a : goal.invariant-loop-a
invariant-loop-a l = Passed l.k (λ a. not (edge_in l.before a a)) l.a
