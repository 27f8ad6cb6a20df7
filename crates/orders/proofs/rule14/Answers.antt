-- `orders::rule14` meets its contract. Assumes nothing.
use mathlib.Core.Path.{◌∙◌}
use Rattle.bits.specs.Bit.{bit}
use Rattle.rows.specs.Sets.{order_in, store_in}
use Rattle.rows.proofs.Each.{pass_fails, pass_end}
use Rattle.orders.specs.Parts.{written_in}
use Rattle.orders.proofs.Laws.{by_store}
use Rattle.orders.proofs.rule14.Goals as goal

pub returns-then-not-coherent_event : goal.returns-then-not-coherent_event
returns-then-not-coherent_event c =
    pass_fails c.loop-a.invariant c.in-Some.ensures.steps c.coherent_event.ensures c.if-not-coherent_event.true
    ∙ by_store c.args.n c.args.k (bit c.args.stores) (store_in c.args.stores c.args.partners.now) (written_in c.args.k c.args.stores c.args.partners.now c.args.addresses.now c.args.writes.now) (order_in c.args.known.now)

pub returns : goal.returns
returns c =
    pass_end c.loop-a.invariant c.in-None.ensures.steps
    ∙ by_store c.args.n c.args.k (bit c.args.stores) (store_in c.args.stores c.args.partners.now) (written_in c.args.k c.args.stores c.args.partners.now c.args.addresses.now c.args.writes.now) (order_in c.args.known.now)
