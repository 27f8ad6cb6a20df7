-- `rules::finals` meets its contract. Assumes nothing.
use borrow.Author.Rules.{rules}
use mathlib.Core.Path.{◌∙◌}
use Rattle.model.specs.Rules.{finals}
use Rattle.rules.proofs.Last.{fill_none, fill_next, fill_all, listed_most, final-in}
use Rattle.rules.proofs.finals.Goals as goal

pub loop-x-init : goal.loop-x-init
unfolding finals
loop-x-init c =
    fill_none (search rules)

pub final_value-requires-clause-j_bound : goal.final_value-requires-clause-j_bound
unfolding finals
final_value-requires-clause-j_bound c =
    listed_most c.args.c c.requires c.labelled-stores.ensures c.loop-x.x

pub loop-x-preserved : goal.loop-x-preserved
unfolding finals
loop-x-preserved c =
    fill_next c.loop-x.invariant c.loop-x-test.true (c.final_value.ensures ∙ final-in c.args.c c.requires c.labelled-stores.ensures c.loop-x.x)

pub returns : goal.returns
unfolding finals
returns c =
    fill_all c.loop-x.invariant c.loop-x-test.false
