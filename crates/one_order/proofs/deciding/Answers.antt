-- `one_order::deciding` meets its contract. Assumes nothing.
use native.Mathlib.Omega.{arith}
use mathlib.Core.Path.{sym, ◌∙◌}
use Rattle.one_order.proofs.AlikeOrders.{alike_11}
use Rattle.one_order.proofs.deciding.Goals as goal

pub returns-then-alike-clause-rows_value : goal.returns-then-alike-clause-rows_value
returns-then-alike-clause-rows_value c =
    alike_11 c.args.n c.args.k c.args.rows.now (sym c.alike.ensures ∙ c.if-alike.true) (omega arith)
