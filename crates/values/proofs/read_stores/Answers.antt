-- `values::read_stores` meets its contract. Assumes nothing.
use mathlib.Core.Path.{ap}
use mathlib.Core.Bool.{not, ◌&&◌}
use lib.Dec.{eqb}
use Rattle.finite.specs.Tests.{all, ◌⇒◌}
use Rattle.bits.specs.Bit.{bit}
use Rattle.rows.specs.Sets.{order_in}
use Rattle.rows.proofs.Each.{collect_first, event_below, event_of, collect_next, collect_end}
use Rattle.rows.proofs.SetLaws.{set_same, some_only}
use Rattle.values.specs.Parts.{must_read_of}
use Rattle.values.proofs.read_stores.Goals as goal

pub loop-s-init : goal.loop-s-init
loop-s-init c =
    collect_first c.into_iter-s-iterator.ensures.into_iter_gives c.members_below-s-items.ensures
    (λ j e h. ap (λ t. t && order_in c.args.known.now c.args.t j c.args.l && (all c.args.k λ x. (bit c.args.rivals x && not (eqb x j)) ⇒ order_in c.args.known.now c.args.t x j) && eqb e j) h)

pub read_store-found-requires-clause-s_lt_k : goal.read_store-found-requires-clause-s_lt_k
read_store-found-requires-clause-s_lt_k c =
    event_below c.loop-s.invariant.within c.in-Some.ensures.steps

pub read_store-found-requires-clause-s_value : goal.read_store-found-requires-clause-s_value
read_store-found-requires-clause-s_value c =
    event_of c.loop-s.invariant.within c.in-Some.ensures.steps

pub loop-s-preserved : goal.loop-s-preserved
loop-s-preserved c =
    collect_next c.loop-s.invariant c.in-Some.ensures.steps c.read_store-found.ensures

pub returns : goal.returns
returns c =
    set_same (collect_end c.loop-s.invariant c.in-None.ensures.steps) (some_only c.args.k (must_read_of c.args.k (bit c.args.sources) (bit c.args.rivals) (order_in c.args.known.now c.args.t) c.args.l))
