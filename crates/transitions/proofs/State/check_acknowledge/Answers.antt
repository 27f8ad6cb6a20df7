-- `transitions::State::check_acknowledge` meets its contract. Assumes nothing.
use Rattle.transitions.proofs.Acknowledging.{no_mark, is_everywhere, not-everywhere}
use Rattle.transitions.proofs.State.check_acknowledge.Goals as goal

pub returns-then-c-b-ne1 : goal.returns-then-c-b-ne1
returns-then-c-b-ne1 c =
    no_mark _ c.args.self.now.good _ c.if-c-b-ne1.true

pub returns-then-not-everywhere : goal.returns-then-not-everywhere
returns-then-not-everywhere c =
    let e = rw (c.lists-lists.ensures.listed, c.lists-lists.ensures.events) at c.everywhere.ensures in
    not-everywhere _ c.args.self.now.good _ c.if-c-b-ne1.false c.barrier_entry.ensures e c.if-not-everywhere.true

pub returns : goal.returns
returns c =
    let e = rw (c.lists-lists.ensures.listed, c.lists-lists.ensures.events) at c.everywhere.ensures in
    is_everywhere _ c.args.self.now.good _ c.if-c-b-ne1.false c.barrier_entry.ensures e c.if-not-everywhere.false
