-- `coherence::committed_row` meets its contract. Assumes nothing.
use Rattle.coherence.proofs.Laws.{committed_where}
use Rattle.coherence.proofs.committed_row.Goals as goal

pub returns : goal.returns
returns c =
    committed_where c.args.row c.args.added c.args.b c.args.y c.with.ensures c.has.ensures c.where_so.ensures
