-- `by_columns::Orders::fenced_order` meets its contract. Assumes nothing.
use mathlib.Core.Path.{refl, ap}
use mathlib.Core.Bool.{◌&&◌}
use Rattle.finite.proofs.Tests.{some_same}
use Rattle.rows.specs.Sets.{order_in}
use Rattle.rows.proofs.SetLaws.{set_as, set_same, share, as_set}
use Rattle.values.proofs.Laws.{fences_set}
use Rattle.by_columns.proofs.Orders.fenced_order.Goals as goal

pub returns : goal.returns
returns c =
    set_as c.both-2.ensures (share (as_set refl)
    (set_same c.after.ensures (λ e. some_same c.args.self.now.k _ _ (λ f lf. ap (λ t. t && order_in c.args.self.now.rows.now c.args.p f e) ((fences_set c.args.barriers c.args.own c.both.ensures).has f)))))
