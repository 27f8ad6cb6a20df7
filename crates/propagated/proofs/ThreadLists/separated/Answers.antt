-- `propagated::ThreadLists::separated` meets its contract. Assumes nothing.
use Rattle.propagated.proofs.Entries.{inside, read_at, behind}
use Rattle.propagated.proofs.Turns.{separated-none, separated-next, separated-all, entry_in}
use Rattle.propagated.proofs.ThreadLists.separated.Goals as goal

pub loop-entry-init : goal.loop-entry-init
loop-entry-init c = separated-none

pub loop-entry-preserved : goal.loop-entry-preserved
loop-entry-preserved c =
    let L = c.list-list.ensures in
    let l = c.loop-entry-test.true in
    let e = read_at L l c.from-e.ensures in
    separated-next c.loop-entry.invariant c.requires.once (inside L l) e (entry_in c.loop-entry.invariant.present c.args.self.now.lists e)
    c.where_so-out.ensures c.where_so-behind.ensures c.with-seen.ensures

pub returns : goal.returns
returns c = separated-all c.loop-entry.invariant (behind c.list-list.ensures c.loop-entry-test.false)
