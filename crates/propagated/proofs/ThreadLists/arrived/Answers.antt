-- `propagated::ThreadLists::arrived` meets its contract. Assumes nothing.
use Rattle.propagated.proofs.Entries.{inside, read_at, behind}
use Rattle.propagated.proofs.Turns.{seen_none, seen_next, seen_all}
use Rattle.propagated.proofs.ThreadLists.arrived.Goals as goal

pub loop-e-init : goal.loop-e-init
loop-e-init c = seen_none

pub loop-e-preserved : goal.loop-e-preserved
loop-e-preserved c =
    let L = c.list-list.ensures in
    let l = c.loop-e-test.true in
    seen_next c.loop-e.invariant (inside L l) (read_at L l c.from.ensures) c.with-seen.ensures

pub returns : goal.returns
returns c = seen_all c.loop-e.invariant (behind c.list-list.ensures c.loop-e-test.false)
