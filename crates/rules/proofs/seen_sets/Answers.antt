-- `rules::seen_sets` meets its contract. Assumes nothing.
use borrow.Author.Rules.{rules}
use mathlib.Core.Path.{refl}
use Rattle.rows.proofs.SetLaws.{either}
use Rattle.rows.proofs.Loops.{unfilled, fills, filled}
use Rattle.rules.proofs.seen_sets.Goals as goal

pub loop-p-init : goal.loop-p-init
loop-p-init c =
    unfilled (search rules)

pub loop-p-preserved : goal.loop-p-preserved
loop-p-preserved c =
    fills c.loop-p.invariant c.loop-p-test.true (either c.paired.ensures (record { has = λ e. refl }))

pub returns : goal.returns
returns c =
    filled c.loop-p.invariant c.loop-p-test.false
