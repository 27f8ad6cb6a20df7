-- `coherence::joined` meets its contract. Assumes nothing.
use Rattle.bits.specs.Bit.{bit}
use Rattle.coherence.proofs.Laws.{row_where}
use Rattle.coherence.proofs.joined.Goals as goal

pub returns : goal.returns
returns c =
    row_where c.args.row c.args.pivot (bit c.args.row c.args.j) c.has.ensures c.where_so.ensures
