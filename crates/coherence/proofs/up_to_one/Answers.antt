-- `coherence::up_to_one` meets its contract. Assumes nothing.
use Rattle.coherence.proofs.Laws.{up_to_where}
use Rattle.coherence.proofs.up_to_one.Goals as goal

pub returns : goal.returns
returns c =
    up_to_where c.args.set c.args.w c.args.before.now c.has.ensures c.with.ensures c.where_so.ensures
