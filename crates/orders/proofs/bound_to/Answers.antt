-- `orders::bound_to` meets its contract. Assumes nothing.
use mathlib.Core.Path.{sym, ◌∙◌}
use Rattle.orders.proofs.Laws.{bound_other}
use Rattle.orders.proofs.bound_to.Goals as goal

pub returns-else-has : goal.returns-else-has
returns-else-has c =
    bound_other c.args.own c.args.barriers c.args.partner c.args.dependent c.args.a (sym c.has.ensures ∙ c.if-has.false)
