-- `coherence::to_address` meets its contract. Assumes nothing.
use lib.Dec.{eqb}
use lib.ListN.{get_or}
use Rattle.rows.proofs.Loops.{empty, joins}
use Rattle.coherence.proofs.Laws.{ones}
use Rattle.coherence.proofs.to_address.Goals as goal

pub loop-w-init : goal.loop-w-init
loop-w-init c =
    search empty

pub loop-w-preserved : goal.loop-w-preserved
loop-w-preserved c =
    search joins

pub returns : goal.returns
returns c =
    ones (λ w. eqb (get_or c.args.address.now w 0) c.args.a) c.loop-w.invariant c.loop-w-test.false
