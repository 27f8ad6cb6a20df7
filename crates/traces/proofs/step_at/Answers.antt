-- `traces::step_at` meets its contract. Assumes nothing.
use native.Mathlib.Omega.{arith}
use Rattle.traces.proofs.Turns.{steps_few, kind_within}
use Rattle.traces.proofs.step_at.Goals as goal

pub bounds-trace-i : goal.bounds-trace-i
bounds-trace-i c =
    let few = steps_few _ c.requires.good in omega arith

pub unreachable-requires : goal.unreachable-requires
unreachable-requires c =
    let w = kind_within _ c.requires.good _ c.requires.i_lt_steps in
    c.in-Err.ensures w.0 w.1
