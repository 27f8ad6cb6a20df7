-- `least::source` meets its contract. Assumes nothing.
use Rattle.least.proofs.FirstField.{source_is, source_below}
use Rattle.least.proofs.source.Goals as goal

pub returns : goal.returns
returns c =
    (search source_is, search source_below)
