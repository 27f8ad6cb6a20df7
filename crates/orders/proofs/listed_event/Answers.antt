-- `orders::listed_event` meets its contract. Assumes nothing.
use Prim.Native.Nat.{◌+◌}
use mathlib.Core.Path.{◌∙◌}
use Rattle.rows.proofs.SetLaws.{inside-set, as_set, set_below, either, imp_yes}
use Rattle.orders.proofs.listed_event.Goals as goal

pub returns : goal.returns
returns c =
    c.inside_below.ensures
    ∙ inside-set c.args.k c.bound_to-bound.ensures (either (as_set c.row.ensures) (set_below (c.args.a + 1) c.below.ensures))
    ∙ imp_yes _ _ c.requires.a_value
