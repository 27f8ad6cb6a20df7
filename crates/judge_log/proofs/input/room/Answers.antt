-- `judge_log::input::room` meets its contract.
-- Assumes nothing.
use Rattle.std.proofs.Common.{arith}
use Rattle.laws.proofs.Bound.{most_is}
use Rattle.judge_log.proofs.input.room.Goals as goal

pub returns : goal.returns
returns c = record { enough = omega (arith, most_is.1); most = omega arith }
