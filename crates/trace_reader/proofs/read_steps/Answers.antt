-- `trace_reader::read_steps` meets its contract. Assumes nothing.
use native.Mathlib.Omega.{arith}
use Rattle.std.proofs.lemmas.Result.{err_from_is_err_and}
use Rattle.trace_reader.proofs.AllSteps.{begun, writes_most, barriers_most, one-fits, other_fits, refusal, one_more, all_read}
use Rattle.trace_reader.proofs.read_steps.Goals as goal

pub loop-i-init : goal.loop-i-init
loop-i-init c =
    search begun

pub read_step-requires : goal.read_step-requires
read_step-requires c =
    (writes_most _ _ _ _ _ _ _ _ _ _ _ _ _ c.loop-i.invariant c.requires.count_le_most_steps, barriers_most _ _ _ _ _ _ _ _ _ _ _ _ _ c.loop-i.invariant c.requires.count_le_most_steps)

pub returns-in_err-step : goal.returns-in_err-step
returns-in_err-step c =
    let p = err_from_is_err_and c.from_residual.result c.from_residual.ensures.1 in
    rw (p.1, p.2) (refusal _ _ _ _ _ _ _ _ _ _ _ _ _ c.loop-i.invariant (omega arith) _ _ c.in_err-step.ensures.same)

pub overflow_add-writes : goal.overflow_add-writes
overflow_add-writes c =
    one-fits _ _ _ _ _ _ _ _ _ _ _ _ _ c.loop-i.invariant c.requires.count_le_most_steps _ c.counted-writes.ensures.1

pub overflow_add-barriers : goal.overflow_add-barriers
overflow_add-barriers c =
    other_fits _ _ _ _ _ _ _ _ _ _ _ _ _ c.loop-i.invariant c.requires.count_le_most_steps _ c.counted-barriers.ensures.1

pub loop-i-preserved : goal.loop-i-preserved
loop-i-preserved c =
    one_more _ _ _ _ _ _ _ _ _ _ _ _ _ c.loop-i.invariant (omega arith) c.requires.count_le_most_steps _ _ c.in_ok-step.ensures.same c.in_ok-step.ensures.exact
    c.from.ensures c.counted-writes.ensures c.counted-barriers.ensures

pub returns : goal.returns
returns c =
    all_read _ _ _ _ _ _ _ _ _ _ _ _ _ c.loop-i.invariant (omega arith)
