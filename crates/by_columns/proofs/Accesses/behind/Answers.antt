-- `by_columns::Accesses::behind` meets its contract. Assumes nothing.
use borrow.Author.Rules.{rules}
use Rattle.rows.proofs.Loops.{unfilled, fills, filled}
use Rattle.by_columns.proofs.Accesses.behind.Goals as goal

pub loop-s-init : goal.loop-s-init
loop-s-init c =
    unfilled (search rules)

pub loop-s-preserved : goal.loop-s-preserved
loop-s-preserved c =
    fills c.loop-s.invariant c.loop-s-test.true c.behind_event.ensures

pub returns : goal.returns
returns c =
    filled c.loop-s.invariant c.loop-s-test.false
