-- `rows::before_of` meets its contract. Assumes nothing.
use lib.Dec.{eqb}
use mathlib.Core.Bool.{◌&&◌}
use Rattle.bits.specs.Bit.{bit}
use Rattle.rows.specs.Sets.{order_in}
use Rattle.rows.proofs.Each.{Collected}
use Rattle.rows.proofs.before_of.Given as goal

abbrev pub invariant-loop-a : goal.invariant-loop-a
invariant-loop-a l = Collected l.k l.set (λ a e. (bit l.set a && order_in l.rows l.p a l.b) && eqb e a) l.a-iterator l.found
