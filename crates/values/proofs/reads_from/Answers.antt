-- `values::reads_from` meets its contract. Assumes nothing.
use borrow.Author.Rules.{rules}
use Rattle.rows.proofs.Loops.{unfilled, fills, filled}
use Rattle.values.proofs.reads_from.Goals as goal

pub loop-l-init : goal.loop-l-init
loop-l-init c =
    unfilled (search rules)

pub read_by-requires-clause-l_bound : goal.read_by-requires-clause-l_bound
read_by-requires-clause-l_bound c =
    c.requires.by_index c.loop-l.l c.loop-l-test.true

pub loop-l-preserved : goal.loop-l-preserved
loop-l-preserved c =
    fills c.loop-l.invariant c.loop-l-test.true c.read_by.ensures

pub returns : goal.returns
returns c =
    filled c.loop-l.invariant c.loop-l-test.false
