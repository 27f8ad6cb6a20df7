-- `compare::numbers` meets its contract. Assumes nothing.
use Rattle.compare.proofs.Groups.{Left}
use Rattle.compare.proofs.numbers.Given as goal

abbrev pub invariant-loop-order : goal.invariant-loop-order
invariant-loop-order l = Left l.v l.w l.a l.b

abbrev pub decreases-loop-order : goal.decreases-loop-order
decreases-loop-order l = l.a
