-- `by_columns::Orders::connected_event` meets its contract. Assumes nothing.
use mathlib.Core.Path.{refl, ◌∙◌}
use Rattle.bits.specs.Bit.{bit}
use Rattle.rows.specs.Sets.{order_in}
use Rattle.rows.proofs.SetLaws.{inside-set, as_set, set_with, either, imp_yes}
use Rattle.orders.proofs.Laws.{around}
use Rattle.by_columns.proofs.Orders.connected_event.Goals as goal

pub returns : goal.returns
returns c =
    let a = c.args in
    c.inside_below.ensures
    ∙ inside-set a.self.now.k (as_set refl) (set_with a.a c.with.ensures (either (as_set c.row.ensures) c.earlier_of.ensures))
    ∙ around a.self.now.k (bit a.own) (order_in a.self.now.rows.now a.p) a.a
    ∙ imp_yes _ _ c.requires.a_value
