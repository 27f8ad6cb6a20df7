-- `coherence::acyclic` meets its contract. Assumes nothing.
use Rattle.coherence.proofs.Loops.{acyclic-closed}
use Rattle.coherence.proofs.acyclic.Goals as goal

pub returns : goal.returns
returns c =
    search acyclic-closed
