-- `propagated::ThreadLists::preceding` meets its contract. Assumes nothing.
use Rattle.propagated.proofs.Turns.{Preceding}
use Rattle.propagated.proofs.ThreadLists.preceding.Given as goal

abbrev pub invariant-loop-entry : goal.invariant-loop-entry
invariant-loop-entry l = Preceding l.self.listed.now l.self.events.now l.t l.x l.seen l.out l.entry-index
