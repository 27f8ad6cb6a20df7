-- `coherence::commit` meets its contract. Assumes nothing.
use Rattle.coherence.proofs.Loops.{unchanged, changes, committed}
use Rattle.coherence.proofs.commit.Goals as goal

pub loop-b-init : goal.loop-b-init
loop-b-init c =
    unchanged

pub loop-b-preserved : goal.loop-b-preserved
loop-b-preserved c =
    search changes

pub returns : goal.returns
returns c =
    search committed
