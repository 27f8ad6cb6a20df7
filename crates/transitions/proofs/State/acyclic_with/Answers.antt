-- `transitions::State::acyclic_with` meets its contract. Assumes nothing.
use Rattle.transitions.proofs.Commits.{rows-acyclic}
use Rattle.transitions.proofs.State.acyclic_with.Goals as goal

pub returns : goal.returns
returns c =
    search rows-acyclic
