-- `least::by_addresses` meets its contract. Assumes nothing.
use Rattle.std.proofs.Common.{rules}
use Rattle.least.specs.Parts.{addresses_part}
use Rattle.least.proofs.FirstField.{two_parts}
use Rattle.least.proofs.by_addresses.Goals as goal

pub returns : goal.returns
unfolding addresses_part
returns c =
    two_parts _ _ _ _ c.initials.ensures (λ h. search rules) c.then_with.ensures
