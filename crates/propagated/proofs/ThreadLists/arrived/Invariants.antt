-- `propagated::ThreadLists::arrived` meets its contract. Assumes nothing.
use Rattle.propagated.proofs.Turns.{Seen}
use Rattle.propagated.proofs.ThreadLists.arrived.Given as goal

abbrev pub invariant-loop-e : goal.invariant-loop-e
invariant-loop-e l = Seen l.self.listed.now l.self.events.now l.t l.seen l.e-index
