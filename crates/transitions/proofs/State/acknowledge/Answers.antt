-- `transitions::State::acknowledge` meets its contract. Assumes nothing.
use Rattle.transitions.proofs.Taken.{taken}
use Rattle.transitions.proofs.Effects.{acknowledged_held}
use Rattle.transitions.proofs.State.acknowledge.Goals as goal

pub returns : goal.returns
returns c =
    taken _ _ c.in_ok-check_acknowledge.ensures (acknowledged_held _ c.args.self.now.good _ c.requires)
