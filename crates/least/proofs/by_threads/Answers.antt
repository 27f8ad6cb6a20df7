-- `least::by_threads` meets its contract. Assumes nothing.
use Rattle.std.proofs.Common.{rules}
use Rattle.least.specs.Parts.{threads_part}
use Rattle.least.proofs.FirstField.{two_parts}
use Rattle.least.proofs.by_threads.Goals as goal

pub returns : goal.returns
unfolding threads_part
returns c =
    two_parts _ _ _ _ c.threads.ensures (λ h. search rules) c.then_with.ensures
