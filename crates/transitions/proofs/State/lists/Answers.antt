-- `transitions::State::lists` meets its contract. Assumes nothing.
use Rattle.transitions.proofs.Conditions.{lists}
use Rattle.transitions.proofs.State.lists.Goals as goal

pub invariant_of-result : goal.invariant_of-result
invariant_of-result c =
    record { lists = lists _ c.args.self.now.good }
