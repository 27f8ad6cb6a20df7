-- `transitions::State::arrived` meets its contract. Assumes nothing.
use Rattle.transitions.proofs.Conditions.{here}
use Rattle.transitions.proofs.State.arrived.Goals as goal

pub returns : goal.returns
returns c =
    here _ c.args.self.now.good _ _ c.requires (rw (c.lists-lists.ensures.listed, c.lists-lists.ensures.events) at c.arrived.ensures)
