-- `rules::gather` meets its contract. Assumes nothing.
use Prim.Native.Nat.{◌<◌}
use mathlib.Core.Path.{ap, ◌∙◌}
use mathlib.Core.Bool.{not, ◌&&◌}
use lib.Bits.{bit_or}
use lib.Dec.{eqb, ltb}
use lib.ListN.{get_or}
use Rattle.bits.specs.Bit.{bit}
use Rattle.model.specs.Limits.{most_addresses}
use Rattle.rows.proofs.SetLaws.{set_below, set_same}
use Rattle.rules.proofs.Same.{accessed, agrees, in_range, once}
use Rattle.rules.proofs.gather.Goals as goal

pub sharing-partners-requires-clause-by_index : goal.sharing-partners-requires-clause-by_index
sharing-partners-requires-clause-by_index c =
    let d = c.args.c.now in
    accessed d.kind {P = λ e. get_or d.address e 0 < most_addresses} c.labelled-loads.ensures c.labelled-stores.ensures (in_range d c.requires c.link_count-links.ensures).address

pub dependents-dependents-requires-clause-count_le_most_dependencies : goal.dependents-dependents-requires-clause-count_le_most_dependencies
dependents-dependents-requires-clause-count_le_most_dependencies c =
    (in_range c.args.c.now c.requires c.link_count-links.ensures).most

pub dependents-dependents-requires-clause-by_index : goal.dependents-dependents-requires-clause-by_index
dependents-dependents-requires-clause-by_index c =
    (in_range c.args.c.now c.requires c.link_count-links.ensures).from

pub dependents-dependents-requires-clause-by_index_2 : goal.dependents-dependents-requires-clause-by_index_2
dependents-dependents-requires-clause-by_index_2 c =
    (in_range c.args.c.now c.requires c.link_count-links.ensures).to

pub returns : goal.returns
returns c =
    let d = c.args.c.now in
    let every = set_below d.events c.below-every.ensures in
    agrees d c.requires c.link_count-links.ensures (record {
      loads = c.labelled-loads.ensures;
      stores = c.labelled-stores.ensures;
      syncs = c.labelled-syncs.ensures;
      barriers = set_same c.minus-barriers.ensures (λ x. ap (λ u. u && not (bit (bit_or c.labelled-loads.result c.labelled-stores.result) x)) (every.has x));
      own = record { has = λ x lx y. c.by_label-own.ensures.has x lx y ∙ once (ltb y d.events) (eqb (get_or d.thread y 0) x) (every.has y) };
      partners = c.sharing-partners.ensures;
      dependents = c.dependents-dependents.ensures;
    })
