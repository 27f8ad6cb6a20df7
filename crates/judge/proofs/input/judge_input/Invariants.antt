-- `judge::input::judge_input` is safe.
-- Assumes nothing.
use Rattle.std.proofs.Common.{◌≤◌, length}
use Rattle.model.specs.Limits.{most_edition}
use Rattle.model.specs.Bound.{most_bytes}
use Rattle.judge.specs.Within.{Within}
use Rattle.judge.proofs.input.judge_input.Given as goal

abbrev pub invariant-loop : goal.invariant-loop
invariant-loop g l = Within l.p (length l.buffer) × (most_bytes most_edition ≤ length l.buffer)
