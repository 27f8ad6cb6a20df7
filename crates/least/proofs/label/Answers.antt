-- `least::label` meets its contract. Assumes nothing.
use Rattle.least.proofs.FirstField.{of_numbers}
use Rattle.least.proofs.label.Goals as goal

pub returns : goal.returns
returns c =
    search of_numbers
