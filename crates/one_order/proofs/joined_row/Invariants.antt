-- `one_order::joined_row` meets its contract. Assumes nothing.
use Prim.Native.Nat.{◌-◌, min}
use Rattle.model.specs.Limits.{most_threads}
use Rattle.rows.specs.Sets.{order_in}
use Rattle.one_order.proofs.Joins.{Joined}
use Rattle.one_order.proofs.joined_row.Given as goal

abbrev pub invariant-loop-q : goal.invariant-loop-q
invariant-loop-q l = Joined most_threads (λ q g. order_in l.rows (min q (l.n - 1)) l.e g) l.q l.shared
