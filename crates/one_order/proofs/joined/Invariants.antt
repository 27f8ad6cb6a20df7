-- `one_order::joined` meets its contract. Assumes nothing.
use Rattle.finite.specs.Tests.{all}
use Rattle.rows.specs.Sets.{order_in}
use Rattle.rows.proofs.Loops.{Filled}
use Rattle.one_order.proofs.joined.Given as goal

abbrev pub invariant-loop-e : goal.invariant-loop-e
invariant-loop-e l = Filled l.k (λ e g. all l.n (λ q. order_in l.rows q e g)) l.e l.out
