-- `by_columns::Accesses::behind_load` meets its contract. Assumes nothing.
use Rattle.rows.proofs.SetLaws.{so_set, as_set}
use Rattle.by_columns.proofs.Laws.{bounded}
use Rattle.by_columns.proofs.Accesses.behind_load.Goals as goal

pub returns : goal.returns
returns c =
    bounded c.args.self.now.orders.k c.args.l c.requires.l_lt_k (so_set c.where_so.ensures c.must_read.ensures (as_set (rw c.from-t.ensures at c.row.ensures)))
