-- `rows::before_of` meets its contract. Assumes nothing.
use lib.Dec.{eqb}
use mathlib.Core.Bool.{◌&&◌}
use mathlib.Core.Path.{ap}
use Rattle.bits.specs.Bit.{bit}
use Rattle.rows.specs.Sets.{order_in}
use Rattle.rows.proofs.Each.{collect_first, collect_next, collect_end}
use Rattle.rows.proofs.SetLaws.{set_same, some_only}
use Rattle.rows.proofs.before_of.Goals as goal

pub loop-a-init : goal.loop-a-init
loop-a-init c =
    let s = c.args in
    collect_first c.into_iter-a-iterator.ensures.into_iter_gives c.members_below-a-items.ensures
    (λ j e h. ap (λ t. t && order_in s.rows.now s.p j s.b && eqb e j) h)

pub loop-a-preserved : goal.loop-a-preserved
loop-a-preserved c =
    collect_next c.loop-a.invariant c.in-Some.ensures.steps c.before_one_of-found.ensures

pub returns : goal.returns
returns c =
    let s = c.args in
    set_same (collect_end c.loop-a.invariant c.in-None.ensures.steps) (some_only s.k (λ a. bit s.set a && order_in s.rows.now s.p a s.b))
