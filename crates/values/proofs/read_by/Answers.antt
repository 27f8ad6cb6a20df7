-- `values::read_by` meets its contract. Assumes nothing.
use mathlib.Core.Path.{refl, sym, ◌∙◌}
use Rattle.rows.specs.Sets.{order_in, store_in}
use Rattle.bits.specs.Bit.{bit}
use Rattle.values.specs.Parts.{thread_in}
use Rattle.rows.proofs.SetLaws.{set_as, share, as_set, of_set}
use Rattle.values.proofs.Laws.{read_sets, no_load}
use Rattle.values.proofs.read_by.Goals as goal

pub returns-then-has : goal.returns-then-has
returns-then-has c =
    let sources = set_as c.both-sources.ensures (share (as_set refl) (as_set refl)) in
    read_sets c.args.k (bit c.args.loads) (store_in c.args.stores c.args.partners.now) (thread_in c.args.threads.now) (order_in c.args.known.now) (order_in c.args.asked.now) c.args.l (sym c.has.ensures ∙ c.if-has.true) sources
    (of_set c.args.k (λ x. order_in c.args.asked.now (thread_in c.args.threads.now c.args.l) x c.args.l) sources (rw c.from-t.ensures at c.before_of-rivals.ensures)) (rw c.from-t.ensures at c.read_stores.ensures)

pub returns-else-has : goal.returns-else-has
returns-else-has c =
    no_load c.args.k (bit c.args.loads) (store_in c.args.stores c.args.partners.now) (thread_in c.args.threads.now) (order_in c.args.known.now) (order_in c.args.asked.now) c.args.l (sym c.has.ensures ∙ c.if-has.false)
