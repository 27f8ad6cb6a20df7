-- `columns::turn_each` meets its contract. Assumes nothing.
use Rattle.case.proofs.Pad.{step-size}
use Rattle.columns.proofs.Turns.{turns_next}
use Rattle.columns.proofs.turn_each.Goals as goal

pub loop-p-preserved : goal.loop-p-preserved
loop-p-preserved c =
    turns_next c.loop-p.invariant _ c.requires.n_le_most_threads c.requires.count_le_digits c.loop-p-test.true (step-size c.loop-p.p) c.turn.ensures
