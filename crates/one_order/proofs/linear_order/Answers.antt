-- `one_order::linear_order` meets its contract. Assumes nothing.
use Rattle.rows.specs.Sets.{order_in}
use Rattle.one_order.proofs.FinalParts.{part-all}
use Rattle.one_order.proofs.linear_order.Goals as goal

pub returns : goal.returns
returns c =
    part-all c.args.k (order_in c.args.rows.now c.args.p) c.final_part-part.ensures c.below.ensures c.minus-others.ensures c.after.ensures c.any.ensures
