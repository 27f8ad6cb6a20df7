-- `judge_log::input::judge_input` meets its contract.
-- Assumes nothing.
use Rattle.std.proofs.lemmas.Result.{err_from_is_err_and}
use Rattle.judge_log.proofs.Steps.{reached-first, reached_ready, reached_on, reached_error}
use Rattle.judge_log.proofs.input.judge_input.Goals as goal

pub loop-init : goal.loop-init
loop-init g c = reached-first _ c.room-space.ensures _ c.begun.ensures

pub step-requires-clause-ready : goal.step-requires-clause-ready
step-requires-clause-ready g c = reached_ready _ _ _ c.loop.invariant c.in-Going.is

pub returns-in_err-state : goal.returns-in_err-state
returns-in_err-state g c =
    let p = err_from_is_err_and c.from_residual.result c.from_residual.ensures.1 in
    rw (p.1, p.2) (reached_error _ _ _ c.loop.invariant c.in-Going.is _ _ c.step.ensures _ c.in_err-state.was)

pub loop-preserved : goal.loop-preserved
loop-preserved g c = reached_on _ _ _ c.loop.invariant c.in-Going.is _ _ c.step.ensures _ c.in_ok-state.was
