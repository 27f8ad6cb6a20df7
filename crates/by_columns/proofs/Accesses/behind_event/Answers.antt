-- `by_columns::Accesses::behind_event` meets its contract. Assumes nothing.
use mathlib.Core.Path.{sym, ◌∙◌}
use Rattle.bits.specs.Bit.{bit}
use Rattle.rows.specs.Sets.{order_in}
use Rattle.values.specs.Parts.{thread_in}
use Rattle.by_columns.specs.Parts.{read_in, behind_in}
use Rattle.by_columns.proofs.Laws.{whole, none}
use Rattle.by_columns.proofs.Accesses.behind_event.Goals as goal

pub returns-then-has : goal.returns-then-has
returns-then-has c =
    whole (sym c.has.ensures ∙ c.if-has.true) c.behind_store.ensures

pub returns-else-has : goal.returns-else-has
returns-else-has c =
    none (bit c.args.set c.args.s) (behind_in c.args.self.now.orders.k (read_in c.args.self.now.orders.k c.args.self.now.loads c.args.self.now.stores c.args.self.now.partners.now c.args.self.now.threads.now c.args.self.now.orders.rows.now) (thread_in c.args.self.now.threads.now) (order_in c.args.self.now.orders.rows.now) c.args.s) (sym c.has.ensures ∙ c.if-has.false)
