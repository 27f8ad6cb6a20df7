-- `tally::added` meets its contract.
-- Assumes nothing.
use native.Mathlib.Omega.{arith}
use Rattle.tally.proofs.Adding.{too_low, too_high}
use Rattle.tally.proofs.added.Goals as goal

pub returns-in_default : goal.returns-in_default
returns-in_default c =
    let h = c.in_default in
    too_low _ _ (λ e. omega arith) (omega arith)

pub returns-in_default-2 : goal.returns-in_default-2
returns-in_default-2 c =
    let h = c.in_default in
    too_high _ _ (omega arith)
