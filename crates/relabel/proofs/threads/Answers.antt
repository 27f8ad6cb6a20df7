use Rattle.relabel.proofs.Fill.{begun-zeros, one_more, all_padded}
use Rattle.relabel.proofs.threads.Goals as goal

pub loop-e-init : goal.loop-e-init
loop-e-init c =
    search begun-zeros

pub loop-e-preserved : goal.loop-e-preserved
loop-e-preserved c =
    search one_more

pub returns : goal.returns
returns c =
    search all_padded
