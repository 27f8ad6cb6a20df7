-- `tally::added_accepted` meets its contract.
-- Assumes nothing.
use mathlib.Core.Path.{◌≡◌}
use Rattle.std.proofs.Common.{Err, rules}
use Rattle.tally.specs.declared.NotAdded.TheVariants.{Full}
use Rattle.tally.proofs.Adding.{accepted_added, accepted-full, records-full}
use Rattle.tally.proofs.added_accepted.Goals as goal

pub returns-in_err-one_more : goal.returns-in_err-one_more
returns-in_err-one_more c =
    let e : c.from_residual.result ≡ Err Full = search rules in
    records-full _ _ e c.in_err-one_more.ensures.0

pub returns-in_err-one_more-2 : goal.returns-in_err-one_more-2
returns-in_err-one_more-2 c =
    let e : c.from_residual-in_err-one_more-2.result ≡ Err Full = search rules in
    accepted-full _ _ e c.in_err-one_more-2.ensures.0

pub returns : goal.returns
returns c =
    accepted_added _ _ _ c.in_ok-one_more.ensures c.in_ok-one_more-2.ensures
