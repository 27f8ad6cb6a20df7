-- `transitions::State::group_a_went_before` meets its contract. Assumes nothing.
use Rattle.transitions.proofs.Conditions.{group_went}
use Rattle.transitions.proofs.State.group_a_went_before.Goals as goal

pub returns : goal.returns
returns c =
    let P = rw (c.lists-lists.ensures.listed, c.lists-lists.ensures.events) at c.preceding-group_a.ensures in
    group_went c.args.self.now.good c.requires.b_lt_barriers c.requires.here c.from-own.ensures c.barrier_entry.ensures P c.up_to.ensures c.inside_below.ensures
