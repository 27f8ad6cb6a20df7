-- `columns::turn` meets its contract. Assumes nothing.
use native.Mathlib.Omega.{arith}
use Rattle.columns.proofs.Turns.{turning_begun, turning_next, turning_all}
use Rattle.columns.proofs.turn.Goals as goal

pub loop-s-init : goal.loop-s-init
loop-s-init c =
    turning_begun _ _

pub loop-s-preserved : goal.loop-s-preserved
loop-s-preserved c =
    turning_next c.loop-s.invariant c.requires.count_le_digits c.swap_digit.ensures

pub returns : goal.returns
returns c =
    turning_all c.loop-s.invariant c.requires.count_le_digits (omega arith)
