-- `least::best_addresses` meets its contract. Assumes nothing.
use Rattle.std.proofs.Common.{rules, ◌≤◌}
use Rattle.model.specs.Limits.{most_addresses, most_events}
use Rattle.case.proofs.Bounds.{sound}
use Rattle.least.specs.Parts.{addresses_part}
use Rattle.least.proofs.Search.{best_addresses_is}
use Rattle.least.proofs.best_addresses.Goals as goal

pub best-requires : goal.best-requires
best-requires c =
    let S = sound _ c.requires in
    let n : c.args.c.addresses ≤ most_addresses = S.addresses_most in
    let k : c.args.c.events ≤ most_events = S.events_most in
    search rules

pub returns : goal.returns
returns c =
    let a = c.args in
    best_addresses_is _ c.requires _ ((c.best.ensures (addresses_part a.c.initial a.c.kind a.c.address a.c.addresses a.c.events) (λ q p r h. search rules)).best)
