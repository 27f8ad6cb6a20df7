-- `transitions::State::append` meets its contract. Assumes nothing.
use Rattle.transitions.proofs.Effects.{append-held}
use Rattle.transitions.proofs.State.append.Goals as goal

pub returns : goal.returns
returns c =
    append-held _ c.args.self.now.good _ _ c.requires.t_lt_threads c.requires.t_bound
