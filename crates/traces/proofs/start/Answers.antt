-- `traces::start` meets its contract. Assumes nothing.
use Rattle.traces.proofs.Ends.{started}
use Rattle.traces.proofs.start.Goals as goal

pub returns : goal.returns
returns c =
    search started
