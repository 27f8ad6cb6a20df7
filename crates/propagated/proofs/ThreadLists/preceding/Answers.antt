-- `propagated::ThreadLists::preceding` meets its contract. Assumes nothing.
use Rattle.propagated.proofs.Entries.{inside, read_at, behind}
use Rattle.propagated.proofs.Turns.{preceding_none, preceding_next, preceding_all}
use Rattle.propagated.proofs.ThreadLists.preceding.Goals as goal

pub loop-entry-init : goal.loop-entry-init
loop-entry-init c = preceding_none

pub loop-entry-preserved : goal.loop-entry-preserved
loop-entry-preserved c =
    let L = c.list-list.ensures in
    let l = c.loop-entry-test.true in
    preceding_next c.loop-entry.invariant (inside L l) (read_at L l c.from-e.ensures) c.where_so-out.ensures c.with-seen.ensures

pub returns : goal.returns
returns c = preceding_all c.loop-entry.invariant (behind c.list-list.ensures c.loop-entry-test.false)
