-- `least::best_threads` meets its contract. Assumes nothing.
use Rattle.std.proofs.Common.{rules, ◌≤◌}
use Rattle.model.specs.Limits.{most_threads, most_events}
use Rattle.case.proofs.Bounds.{sound}
use Rattle.least.specs.Parts.{threads_part}
use Rattle.least.proofs.Search.{best_threads_is}
use Rattle.least.proofs.best_threads.Goals as goal

pub best-requires : goal.best-requires
best-requires c =
    let S = sound _ c.requires in
    let n : c.args.c.threads ≤ most_threads = S.threads_most in
    let k : c.args.c.events ≤ most_events = S.events_most in
    search rules

pub returns : goal.returns
returns c =
    let a = c.args in
    best_threads_is _ c.requires _ ((c.best.ensures (threads_part a.c.thread a.c.rows a.c.threads a.c.events) (λ q p r h. search rules)).best)
