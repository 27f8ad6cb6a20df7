-- `propagated::ThreadLists::latest` meets its contract. Assumes nothing.
use Rattle.propagated.proofs.Turns.{Latest}
use Rattle.propagated.proofs.ThreadLists.latest.Given as goal

abbrev pub invariant-loop-e : goal.invariant-loop-e
invariant-loop-e l = Latest l.self.listed.now l.self.events.now l.address l.value l.t l.a l.v l.found l.e-index
