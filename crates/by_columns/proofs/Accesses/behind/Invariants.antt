-- `by_columns::Accesses::behind` meets its contract. Assumes nothing.
use mathlib.Core.Bool.{◌&&◌}
use Rattle.bits.specs.Bit.{bit}
use Rattle.rows.specs.Sets.{order_in}
use Rattle.rows.proofs.Loops.{Filled}
use Rattle.values.specs.Parts.{thread_in}
use Rattle.by_columns.specs.Parts.{read_in, behind_in}
use Rattle.by_columns.proofs.Accesses.behind.Given as goal

abbrev pub invariant-loop-s : goal.invariant-loop-s
invariant-loop-s l = Filled l.self.orders.k (λ s g. bit l.set s && behind_in l.self.orders.k (read_in l.self.orders.k l.self.loads l.self.stores l.self.partners.now l.self.threads.now l.self.orders.rows.now) (thread_in l.self.threads.now) (order_in l.self.orders.rows.now) s g) l.s l.out
