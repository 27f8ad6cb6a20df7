-- `number::size` meets its contract. Assumes nothing.
use native.Mathlib.Omega.{arith}
use Rattle.number.proofs.Sizes.{counted_none, one-counted, counted-small, counted-all}
use Rattle.number.proofs.size.Goals as goal

pub loop-rest-init : goal.loop-rest-init
loop-rest-init c =
    counted_none _

pub overflow_add-size : goal.overflow_add-size
overflow_add-size c =
    omega (arith, counted-small _ _ _ c.loop-rest.invariant c.ranges.v.fits)

pub loop-rest-preserved : goal.loop-rest-preserved
loop-rest-preserved c =
    search one-counted

pub returns : goal.returns
returns c =
    counted-all _ _ _ c.loop-rest.invariant c.ranges.v.fits c.loop-rest-test.false
