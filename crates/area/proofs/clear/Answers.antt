-- `area::clear` meets its contract. Assumes nothing.
use native.Mathlib.Omega.{arith}
use Rattle.area.proofs.Clearing.{begun, stops, ends, one_more, cleared_few}
use Rattle.area.proofs.clear.Goals as goal

pub loop-i-init : goal.loop-i-init
loop-i-init c =
    begun _ _ _

pub returns-then-allowed-stores : goal.returns-then-allowed-stores
returns-then-allowed-stores c =
    stops _ _ _ _ _ _ c.loop-i.invariant c.if-allowed-stores.true

pub overflow_add-stores : goal.overflow_add-stores
overflow_add-stores c =
    omega (arith, cleared_few _ _ _ _ c.clear_byte-stores.ensures)

pub loop-i-preserved : goal.loop-i-preserved
loop-i-preserved c =
    one_more _ _ _ _ _ _ c.loop-i.invariant (omega (arith, c.loop-i.invariant.long)) c.if-allowed-stores.false _ _ c.clear_byte-stores.ensures

pub returns : goal.returns
returns c =
    ends _ _ _ _ _ _ c.loop-i.invariant (omega (arith, c.loop-i.invariant.long))
