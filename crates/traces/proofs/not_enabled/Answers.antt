-- `traces::not_enabled` meets its contract. Assumes nothing.
use Rattle.traces.proofs.Ends.{no_end}
use Rattle.traces.proofs.not_enabled.Goals as goal

pub returns : goal.returns
returns c =
    rw c.from.ensures (no_end 31 _ 0 _ _ c.empty.ensures)
