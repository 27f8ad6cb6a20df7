-- `one_order::final_part` meets its contract. Assumes nothing.
use Rattle.rows.specs.Sets.{order_in}
use Rattle.one_order.proofs.FinalParts.{part-next, follow_part}
use Rattle.one_order.proofs.final_part.Goals as goal

pub loop-i-preserved : goal.loop-i-preserved
loop-i-preserved c =
    let a = c.from-a.result in
    part-next c.args.k (order_in c.args.rows.now c.args.p) a c.loop-i.invariant
    (follow_part c.args.rows.now c.args.k c.args.p a c.row.ensures c.below-events.ensures c.both.ensures c.if-both-part.false)
    c.with-part.ensures
