-- `traces::unread` meets its contract. Assumes nothing.
use Rattle.traces.proofs.Ends.{no_end}
use Rattle.traces.proofs.unread.Goals as goal

pub returns : goal.returns
returns c =
    rw c.from.ensures (no_end _ 0 _ 0 _ c.empty.ensures)
