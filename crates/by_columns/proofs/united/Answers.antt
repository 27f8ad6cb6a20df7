-- `by_columns::united` meets its contract. Assumes nothing.
use Rattle.rows.proofs.Loops.{empty, joins, united}
use Rattle.rows.proofs.SetLaws.{as_set}
use Rattle.by_columns.proofs.united.Goals as goal

pub loop-a-init : goal.loop-a-init
loop-a-init c =
    search empty

pub loop-a-preserved : goal.loop-a-preserved
loop-a-preserved c =
    joins c.loop-a.invariant c.loop-a-test.true (as_set c.row-found.ensures)

pub returns : goal.returns
returns c =
    united c.loop-a.invariant c.loop-a-test.false
