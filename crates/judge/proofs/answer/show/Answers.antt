-- `judge::answer::show` meets its contract.
-- Assumes nothing.
use Rattle.judge.proofs.Taken.{taken_most}
use Rattle.judge.proofs.answer.show.Goals as goal

pub returns : goal.returns
returns g c = search taken_most
