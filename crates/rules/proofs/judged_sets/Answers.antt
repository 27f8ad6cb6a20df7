-- `rules::judged_sets` meets its contract. Assumes nothing.
use borrow.Author.Rules.{rules}
use Rattle.rows.proofs.Loops.{unfilled, fills, filled}
use Rattle.rules.proofs.judged_sets.Goals as goal

pub loop-p-init : goal.loop-p-init
loop-p-init c =
    unfilled (search rules)

pub loop-p-preserved : goal.loop-p-preserved
loop-p-preserved c =
    fills c.loop-p.invariant c.loop-p-test.true c.judged_set.ensures

pub returns : goal.returns
returns c =
    filled c.loop-p.invariant c.loop-p-test.false
