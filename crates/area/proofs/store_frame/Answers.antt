-- `area::store_frame` meets its contract. Assumes nothing.
use native.Mathlib.Omega.{arith}
use Rattle.area.proofs.Storing.{begun, one_more, all_made}
use Rattle.area.proofs.store_frame.Goals as goal

pub loop-made-init : goal.loop-made-init
loop-made-init c =
    search begun

pub loop-made-preserved : goal.loop-made-preserved
loop-made-preserved c =
    let m = c.min-stores.ensures in
    one_more _ _ _ _ _ _ c.loop-made.invariant (omega arith) (omega arith) _ c.store_next.ensures

pub returns : goal.returns
returns c =
    all_made _ _ _ _ _ _ c.loop-made.invariant _ c.min-stores.ensures c.loop-made-test.false c.loop-made.auto.made-end
