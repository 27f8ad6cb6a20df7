-- `propagated::ThreadLists::everywhere` meets its contract. Assumes nothing.
use Rattle.finite.proofs.Loops.{begun, fails, passes}
use Rattle.propagated.proofs.ThreadLists.everywhere.Goals as goal

pub loop-t-init : goal.loop-t-init
loop-t-init c = begun

pub returns-then-not-has : goal.returns-then-not-has
returns-then-not-has c = search fails

pub loop-t-preserved : goal.loop-t-preserved
loop-t-preserved c = search passes
