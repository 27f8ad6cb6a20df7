-- `by_columns::Orders::earlier_of` meets its contract. Assumes nothing.
use Rattle.rows.specs.Sets.{order_in}
use Rattle.by_columns.proofs.Laws.{earlier_of_set}
use Rattle.by_columns.proofs.Orders.earlier_of.Goals as goal

pub returns : goal.returns
returns c =
    let a = c.args in
    earlier_of_set a.self.now.k a.set (λ e. order_in a.self.now.rows.now a.p e a.b) c.both.ensures c.earlier.ensures
