-- `coherence::to_one` meets its contract. Assumes nothing.
use lib.Dec.{eqb}
use lib.ListN.{get_or}
use Rattle.coherence.proofs.Laws.{one_where}
use Rattle.coherence.proofs.to_one.Goals as goal

pub returns : goal.returns
returns c =
    one_where (eqb (get_or c.args.address.now c.args.w 0) c.args.a) c.args.w c.alone.ensures c.where_so.ensures
