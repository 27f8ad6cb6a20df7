-- `orders::connected_event` meets its contract. Assumes nothing.
use mathlib.Core.Path.{refl, ◌∙◌}
use mathlib.Core.Bool.{not, ◌&&◌, ◌||◌}
use lib.Dec.{eqb}
use Rattle.finite.specs.Tests.{all, ◌⇒◌}
use Rattle.rows.specs.Sets.{order_in}
use Rattle.bits.specs.Bit.{bit}
use Rattle.orders.proofs.Laws.{around}
use Rattle.rows.proofs.SetLaws.{inside-set, as_set, set_with, either, imp_yes}
use Rattle.orders.proofs.connected_event.Goals as goal

pub returns : goal.returns
returns c =
    let asked = order_in c.args.asked.now c.args.p in
    c.inside_below.ensures
    ∙ inside-set c.args.k (as_set refl) (set_with c.args.a c.with.ensures (either (as_set c.row.ensures) c.before_of.ensures))
    ∙ around c.args.k (bit c.args.own) asked c.args.a
    ∙ imp_yes (bit c.args.own c.args.a) (all c.args.k (λ b. (bit c.args.own b && not (eqb c.args.a b)) ⇒ (asked c.args.a b || asked b c.args.a))) c.requires.a_value
