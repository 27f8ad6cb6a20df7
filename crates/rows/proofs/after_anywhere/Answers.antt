-- `rows::after_anywhere` meets its contract. Assumes nothing.
use Rattle.rows.proofs.Loops.{empty, joins}
use Rattle.rows.proofs.SetLaws.{as_set}
use Rattle.rows.proofs.after_anywhere.Goals as goal

pub loop-p-init : goal.loop-p-init
loop-p-init c =
    search empty

pub loop-p-preserved : goal.loop-p-preserved
loop-p-preserved c =
    joins c.loop-p.invariant c.loop-p-test.true (as_set c.row-found.ensures)
