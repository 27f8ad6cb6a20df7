-- `rows::before` meets its contract. Assumes nothing.
use mathlib.Core.Bool.{◌&&◌}
use lib.Dec.{eqb}
use Rattle.rows.specs.Sets.{order_in}
use Rattle.rows.proofs.Loops.{United}
use Rattle.rows.proofs.before.Given as goal

abbrev pub invariant-loop-a : goal.invariant-loop-a
invariant-loop-a l = United l.k (λ a e. order_in l.rows l.p a l.b && eqb e a) l.a l.found
