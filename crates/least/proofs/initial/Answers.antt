-- `least::initial` meets its contract. Assumes nothing.
use Rattle.least.proofs.FirstField.{initial_field}
use Rattle.least.proofs.initial.Goals as goal

pub returns : goal.returns
returns c =
    search initial_field
