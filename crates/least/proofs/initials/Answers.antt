-- `least::initials` meets its contract. Assumes nothing.
use Rattle.std.proofs.Common.{rules}
use Rattle.least.specs.Parts.{initial_at}
use Rattle.least.proofs.FirstField.{of_fields}
use Rattle.least.proofs.initials.Goals as goal

pub returns : goal.returns
unfolding initial_at
returns c =
    of_fields _ _ _ (λ i r l h. search rules) _ c.fields.ensures
