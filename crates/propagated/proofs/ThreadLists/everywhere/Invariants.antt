-- `propagated::ThreadLists::everywhere` meets its contract. Assumes nothing.
use Rattle.finite.proofs.Loops.{Passed}
use Rattle.storage_model.specs.Subsystem.{member}
use Rattle.storage.specs.Held.{event_of, list_at}
use Rattle.propagated.proofs.ThreadLists.everywhere.Given as goal

abbrev pub invariant-loop-t : goal.invariant-loop-t
invariant-loop-t l = Passed l.threads (λ t. member (event_of l.x) (list_at l.self.listed.now l.self.events.now t)) l.t
