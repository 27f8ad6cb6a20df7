-- `rows::dependents` meets its contract. Assumes nothing.
use native.Mathlib.Omega.{arith}
use Rattle.rows.proofs.Loops.{unlinked, links}
use Rattle.rows.proofs.dependents.Goals as goal

pub loop-i-init : goal.loop-i-init
loop-i-init c =
    unlinked

pub loop-i-preserved : goal.loop-i-preserved
loop-i-preserved c =
    let from_in = c.requires.by_index c.loop-i.i c.loop-i-test.true in
    links c.loop-i.invariant c.loop-i-test.true c.from-from.ensures c.from.ensures (omega arith) c.with.ensures
