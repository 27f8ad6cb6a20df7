-- `tally::added_broken` meets its contract.
-- Assumes nothing.
use mathlib.Core.Path.{◌≡◌}
use Rattle.std.proofs.Common.{Err, rules}
use Rattle.tally.specs.declared.NotAdded.TheVariants.{Full}
use Rattle.tally.proofs.Adding.{broken_added, broken-full, records-full_2}
use Rattle.tally.proofs.added_broken.Goals as goal

pub returns-in_err-next : goal.returns-in_err-next
returns-in_err-next c =
    let e : c.from_residual.result ≡ Err Full = search rules in
    records-full_2 _ _ c.requires _ e c.in_err-next.ensures.0

pub returns-in_err-next-2 : goal.returns-in_err-next-2
returns-in_err-next-2 c =
    let e : c.from_residual-in_err-next-2.result ≡ Err Full = search rules in
    broken-full _ _ c.requires _ e c.in_err-next-2.ensures.0

pub returns : goal.returns
returns c =
    broken_added _ _ c.requires _ _ c.in_ok-next.ensures c.in_ok-next-2.ensures
