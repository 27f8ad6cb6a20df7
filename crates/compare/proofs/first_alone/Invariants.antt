-- `compare::first_alone` meets its contract. Assumes nothing.
use Rattle.bits.specs.Bit.{bit}
use Rattle.compare.proofs.Agree.{Agree}
use Rattle.compare.proofs.first_alone.Given as goal

abbrev pub invariant-loop-b : goal.invariant-loop-b
invariant-loop-b l = Agree (bit l.s) (bit l.t) l.k l.b
