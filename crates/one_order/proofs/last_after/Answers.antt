-- `one_order::last_after` meets its contract. Assumes nothing.
use Rattle.rows.specs.Sets.{order_in}
use Rattle.one_order.proofs.FinalParts.{part-last}
use Rattle.one_order.proofs.last_after.Goals as goal

pub returns : goal.returns
returns c =
    part-last c.args.k (order_in c.args.rows.now c.args.p) c.both-last.result c.after.ensures c.any.ensures c.where_so.ensures
