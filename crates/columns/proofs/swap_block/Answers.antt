-- `columns::swap_block` meets its contract. Assumes nothing.
use native.Mathlib.Omega.{arith}
use Rattle.columns.proofs.Digits.{block_at}
use Rattle.columns.proofs.Turns.{swapping_next}
use Rattle.columns.proofs.swap_block.Goals as goal

pub swap-requires-clause-s_value : goal.swap-requires-clause-s_value
swap-requires-clause-s_value c =
    block_at _ _ c.requires.s_value _ c.loop-t.invariant.least (omega arith)

pub loop-t-preserved : goal.loop-t-preserved
loop-t-preserved c =
    swapping_next c.loop-t.invariant c.swap.ensures (omega arith) (omega arith)
