-- `compare::at_most` meets its contract. Assumes nothing.
use Rattle.compare.proofs.Slices.{slices}
use Rattle.compare.proofs.at_most.Goals as goal

pub returns : goal.returns
returns c =
    slices _ _ _ c.le.ensures
