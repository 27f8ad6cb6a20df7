-- `traces::run` meets its contract. Assumes nothing.
use Rattle.traces.proofs.Turns.{turn_begun, turn_fits, turn_refused, turn_more, turn_ends}
use Rattle.traces.proofs.run.Goals as goal

pub loop-i-init : goal.loop-i-init
loop-i-init c =
    turn_begun _ c.requires _ c.start-end.ensures

pub step-taken-requires : goal.step-taken-requires
step-taken-requires c =
    rw c.step_at.ensures (turn_fits _ _ _ c.loop-i.invariant c.loop-i-test.true)

pub returns-in-Err : goal.returns-in-Err
returns-in-Err c =
    turn_refused _ _ _ c.loop-i.invariant c.loop-i-test.true _ (rw c.step_at.ensures at c.in-Err.ensures) _ _ c.not_enabled.ensures

pub loop-i-preserved : goal.loop-i-preserved
loop-i-preserved c =
    turn_more _ _ _ c.loop-i.invariant c.loop-i-test.true _ (rw c.step_at.ensures at c.in-Ok.ensures)

pub returns : goal.returns
returns c =
    turn_ends _ _ _ c.loop-i.invariant c.loop-i-test.false _
