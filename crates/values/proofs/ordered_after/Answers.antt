-- `values::ordered_after` meets its contract. Assumes nothing.
use mathlib.Core.Path.{sym, ◌∙◌}
use Rattle.values.proofs.Laws.{after-sync, after_light}
use Rattle.values.proofs.ordered_after.Goals as goal

pub returns-then-has : goal.returns-then-has
returns-then-has c =
    after-sync c.args.set c.args.syncs c.args.light.now c.args.f c.args.e (sym c.has.ensures ∙ c.if-has.true)

pub returns-else-has : goal.returns-else-has
returns-else-has c =
    after_light c.args.set c.args.syncs c.args.light.now c.args.f c.args.e (sym c.has.ensures ∙ c.if-has.false)
