-- `transitions::State::write_is_after` meets its contract. Assumes nothing.
use Rattle.transitions.proofs.Conditions.{is_after}
use Rattle.transitions.proofs.State.write_is_after.Goals as goal

pub returns : goal.returns
returns c =
    search is_after
