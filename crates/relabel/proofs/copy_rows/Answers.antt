use Rattle.relabel.proofs.Steps.{masked}
use Rattle.relabel.proofs.Fill.{begun, one_more}
use Rattle.relabel.proofs.copy_rows.Goals as goal

pub loop-a-init : goal.loop-a-init
loop-a-init c =
    search begun

pub loop-a-preserved : goal.loop-a-preserved
loop-a-preserved c =
    search (one_more, masked)
