-- `least::addresses` meets its contract. Assumes nothing.
use Rattle.std.proofs.Common.{rules}
use Rattle.least.specs.Parts.{address_at}
use Rattle.least.proofs.FirstField.{of_fields}
use Rattle.least.proofs.addresses.Goals as goal

pub returns : goal.returns
unfolding address_at
returns c =
    of_fields _ _ _ (λ i r l h. search rules) _ c.fields.ensures
