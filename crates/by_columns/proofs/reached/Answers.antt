-- `by_columns::reached` meets its contract. Assumes nothing.
use native.Mathlib.Omega.{arith}
use mathlib.Core.Path.{refl, ap}
use mathlib.Core.Bool.{◌&&◌}
use Rattle.rows.specs.Sets.{set_in}
use Rattle.rows.proofs.Each.{collect_first, event_below, event_of, collect_next, collect_end}
use Rattle.rows.proofs.SetLaws.{as_set}
use Rattle.by_columns.proofs.Laws.{whole}
use Rattle.by_columns.proofs.reached.Goals as goal

pub loop-s-init : goal.loop-s-init
loop-s-init c =
    collect_first c.into_iter-s-iterator.ensures.into_iter_gives c.members_below-s-items.ensures (λ j e h. ap (λ t. t && set_in c.args.behind.now j e) h)

pub bounds-behind-s : goal.bounds-behind-s
bounds-behind-s c =
    let below = event_below c.loop-s.invariant.within c.in-Some.ensures.steps in
    omega arith

pub loop-s-preserved : goal.loop-s-preserved
loop-s-preserved c =
    collect_next c.loop-s.invariant c.in-Some.ensures.steps (whole (event_of c.loop-s.invariant.within c.in-Some.ensures.steps) (as_set refl))

pub returns : goal.returns
returns c =
    collect_end c.loop-s.invariant c.in-None.ensures.steps
