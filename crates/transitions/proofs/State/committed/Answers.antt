-- `transitions::State::committed` meets its contract. Assumes nothing.
use Rattle.transitions.proofs.Commits.{rows-committed}
use Rattle.transitions.proofs.State.committed.Goals as goal

pub returns : goal.returns
returns c =
    search rows-committed
