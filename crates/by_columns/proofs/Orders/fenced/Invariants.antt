-- `by_columns::Orders::fenced` meets its contract. Assumes nothing.
use mathlib.Core.Bool.{◌&&◌}
use Rattle.bits.specs.Bit.{bit}
use Rattle.finite.specs.Tests.{some}
use Rattle.rows.specs.Sets.{order_in, set_in}
use Rattle.rows.proofs.Loops.{United}
use Rattle.by_columns.proofs.Orders.fenced.Given as goal

abbrev pub invariant-loop-p : goal.invariant-loop-p
invariant-loop-p l = United l.self.n (λ p s. set_in l.own p s && some l.self.k (λ f. bit l.barriers f && set_in l.own p f && order_in l.self.rows.now p f s)) l.p l.found
