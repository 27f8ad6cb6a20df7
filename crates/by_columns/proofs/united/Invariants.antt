-- `by_columns::united` meets its contract. Assumes nothing.
use Rattle.rows.specs.Sets.{order_in}
use Rattle.rows.proofs.Loops.{United}
use Rattle.by_columns.proofs.united.Given as goal

abbrev pub invariant-loop-a : goal.invariant-loop-a
invariant-loop-a l = United l.k (λ a e. order_in l.rows l.p a e) l.a l.found
