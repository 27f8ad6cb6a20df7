-- `rows::after` meets its contract. Assumes nothing.
use mathlib.Core.Bool.{◌&&◌}
use Rattle.bits.specs.Bit.{bit}
use Rattle.rows.specs.Sets.{order_in}
use Rattle.rows.proofs.Each.{Collected}
use Rattle.rows.proofs.after.Given as goal

abbrev pub invariant-loop-b : goal.invariant-loop-b
invariant-loop-b l = Collected l.k l.set (λ b e. bit l.set b && order_in l.rows l.p b e) l.b-iterator l.found
