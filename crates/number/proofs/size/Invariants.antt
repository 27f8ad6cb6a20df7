-- `number::size` meets its contract. Assumes nothing.
use Rattle.number.proofs.Sizes.{Counted}
use Rattle.number.proofs.size.Given as goal

abbrev pub invariant-loop-rest : goal.invariant-loop-rest
invariant-loop-rest l = Counted l.v l.rest l.size

abbrev pub decreases-loop-rest : goal.decreases-loop-rest
decreases-loop-rest l = l.rest
