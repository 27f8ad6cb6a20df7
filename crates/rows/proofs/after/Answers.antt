-- `rows::after` meets its contract. Assumes nothing.
use mathlib.Core.Bool.{◌&&◌}
use mathlib.Core.Path.{sym, ap}
use Rattle.rows.specs.Sets.{order_in}
use Rattle.rows.proofs.Each.{collect_first, event_of, collect_next}
use Rattle.rows.proofs.SetLaws.{as_set, set_same}
use Rattle.rows.proofs.after.Goals as goal

pub loop-b-init : goal.loop-b-init
loop-b-init c =
    let s = c.args in collect_first c.into_iter-b-iterator.ensures.into_iter_gives c.members_below-b-items.ensures (λ j e h. ap (λ t. t && order_in s.rows.now s.p j e) h)

pub loop-b-preserved : goal.loop-b-preserved
loop-b-preserved c =
    let s = c.args in
    collect_next c.loop-b.invariant c.in-Some.ensures.steps
    (set_same (as_set c.row-found.ensures)
    (λ e. ap (λ t. t && order_in s.rows.now s.p c.in-Some.b e) (sym (event_of c.loop-b.invariant.within c.in-Some.ensures.steps))))
