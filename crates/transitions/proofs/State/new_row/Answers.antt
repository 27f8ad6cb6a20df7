-- `transitions::State::new_row` meets its contract. Assumes nothing.
use Rattle.transitions.proofs.Followed.{new_row}
use Rattle.transitions.proofs.State.new_row.Goals as goal

pub returns : goal.returns
returns c =
    search new_row
