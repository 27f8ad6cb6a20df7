-- `judge_log::input::judge_input` meets its contract.
-- Assumes nothing.
use Rattle.std.specs.Prelude.{Ok}
use Rattle.judge_log.specs.Progress.{Reached}
use Rattle.judge_log.proofs.input.judge_input.Given as goal

abbrev pub invariant-loop : goal.invariant-loop
invariant-loop g l = Reached l.buffer (Ok l.state)
