-- `by_columns::Orders::earlier` meets its contract. Assumes nothing.
use Rattle.by_columns.proofs.Laws.{earlier_set}
use Rattle.by_columns.proofs.Orders.earlier.Goals as goal

pub returns : goal.returns
returns c =
    earlier_set c.args.p c.args.b c.args.self.now.with_columns c.requires.p_lt_n c.requires.b_lt_k c.both.ensures c.below.ensures c.row.ensures
