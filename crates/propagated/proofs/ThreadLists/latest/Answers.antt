-- `propagated::ThreadLists::latest` meets its contract. Assumes nothing.
use Rattle.propagated.proofs.Entries.{inside, read_at, behind}
use Rattle.propagated.proofs.Turns.{latest-none, latest-next, latest-all}
use Rattle.propagated.proofs.ThreadLists.latest.Goals as goal

pub loop-e-init : goal.loop-e-init
loop-e-init c = latest-none

pub loop-e-preserved : goal.loop-e-preserved
loop-e-preserved c =
    let L = c.list-list.ensures in
    let l = c.loop-e-test.true in
    latest-next c.loop-e.invariant (inside L l) (read_at L l c.from.ensures) c.later-found.ensures

pub returns : goal.returns
returns c = latest-all c.loop-e.invariant (behind c.list-list.ensures c.loop-e-test.false)
