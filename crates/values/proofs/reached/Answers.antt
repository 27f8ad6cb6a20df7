-- `values::reached` meets its contract. Assumes nothing.
use Rattle.rows.proofs.Loops.{empty, joins, united}
use Rattle.values.proofs.reached.Goals as goal

pub loop-l-init : goal.loop-l-init
loop-l-init c =
    search empty

pub reached_by-found-requires-clause-l_bound : goal.reached_by-found-requires-clause-l_bound
reached_by-found-requires-clause-l_bound c =
    c.requires.by_index c.loop-l.l c.loop-l-test.true

pub loop-l-preserved : goal.loop-l-preserved
loop-l-preserved c =
    joins c.loop-l.invariant c.loop-l-test.true c.reached_by-found.ensures

pub returns : goal.returns
returns c =
    united c.loop-l.invariant c.loop-l-test.false
