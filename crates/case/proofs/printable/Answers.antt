-- `case::printable` meets its contract. Assumes nothing.
use Rattle.model.specs.Case.{printable}
use Rattle.case.proofs.printable.Goals as goal

pub returns : goal.returns
unfolding printable
returns c =
    cc
