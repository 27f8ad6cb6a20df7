-- `transitions::State::barriers_went_before` meets its contract. Assumes nothing.
use Rattle.transitions.proofs.Conditions.{all_went}
use Rattle.transitions.proofs.State.barriers_went_before.Goals as goal

pub returns : goal.returns
returns c =
    let P = rw (c.lists-lists.ensures.listed, c.lists-lists.ensures.events) at c.preceding-before.ensures in
    all_went c.args.self.now.good c.requires.w_lt_writes c.requires.here c.from-own.ensures P c.below.ensures c.minus.ensures c.inside.ensures
