-- `coherence::up_to` meets its contract. Assumes nothing.
use Rattle.rows.proofs.Loops.{empty, joins, united}
use Rattle.coherence.proofs.up_to.Goals as goal

pub loop-w-init : goal.loop-w-init
loop-w-init c =
    search empty

pub loop-w-preserved : goal.loop-w-preserved
loop-w-preserved c =
    search joins

pub returns : goal.returns
returns c =
    united c.loop-w.invariant c.loop-w-test.false
