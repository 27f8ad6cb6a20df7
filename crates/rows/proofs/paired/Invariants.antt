-- `rows::paired` meets its contract. Assumes nothing.
use mathlib.Core.Bool.{◌&&◌, ◌||◌}
use lib.Dec.{eqb, ltb}
use Rattle.finite.specs.Tests.{some}
use Rattle.rows.specs.Sets.{order_in}
use Rattle.rows.proofs.Loops.{United}
use Rattle.rows.proofs.paired.Given as goal

abbrev pub invariant-loop-a : goal.invariant-loop-a
invariant-loop-a l = United l.k (λ a e. ltb e l.k && (order_in l.rows l.p a e || (eqb e a && some l.k (order_in l.rows l.p a)))) l.a l.found
