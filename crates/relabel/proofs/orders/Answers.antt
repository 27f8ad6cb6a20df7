use native.Mathlib.Omega.{arith}
use Rattle.relabel.proofs.Steps.{pulled_below}
use Rattle.relabel.proofs.Rows.{table-begun}
use Rattle.case.proofs.Pad.{step-size}
use Rattle.relabel.proofs.Parts.{order_small, order-next}
use Rattle.relabel.proofs.orders.Goals as goal

pub loop-p-init : goal.loop-p-init
loop-p-init c =
    table-begun _ _ _ (omega arith) (order_small c.args.q c.args.c.now.threads c.args.c.now.events c.args.c.now.rows (omega arith))

pub overflow_mul-from : goal.overflow_mul-from
overflow_mul-from c =
    omega (arith, pulled_below _ _ _ c.image-from.ensures (omega arith))

pub copy_rows-requires-clause-k_in_bounds : goal.copy_rows-requires-clause-k_in_bounds
copy_rows-requires-clause-k_in_bounds c =
    omega (arith, pulled_below _ _ _ c.image-from.ensures (omega arith))

pub loop-p-preserved : goal.loop-p-preserved
loop-p-preserved c =
    order-next c.args.q c.args.c.now.threads c.args.c.now.events c.args.c.now.rows _ _ c.loop-p.p _ c.loop-p.out _ c.loop-p.invariant (omega arith) (step-size c.loop-p.p)
    c.image-from.ensures c.inverse-back.ensures c.copy_rows.ensures
