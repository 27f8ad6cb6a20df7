-- `judge::input::step` meets its contract: where fewer bytes are held than a record may take, there is room for another.
-- Assumes nothing.
use Rattle.std.proofs.Common.{arith}
use Rattle.laws.proofs.Bound.{most_is}
use Rattle.judge.proofs.input.step.Goals as goal

pub read_on-requires-clause-at_in_bounds : goal.read_on-requires-clause-at_in_bounds
read_on-requires-clause-at_in_bounds g c = omega (arith, most_is.1)
