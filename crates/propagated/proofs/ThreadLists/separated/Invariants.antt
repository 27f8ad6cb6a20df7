-- `propagated::ThreadLists::separated` meets its contract. Assumes nothing.
use Rattle.propagated.proofs.Turns.{Separated}
use Rattle.propagated.proofs.ThreadLists.separated.Given as goal

abbrev pub invariant-loop-entry : goal.invariant-loop-entry
invariant-loop-entry l = Separated l.self.listed.now l.self.events.now l.t l.x l.seen l.behind l.out l.entry-index
