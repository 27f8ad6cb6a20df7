use Rattle.condition_reader.proofs.Places.{Passed}
use Rattle.condition_reader.proofs.value_of.Given as goal

abbrev pub invariant-loop-i : goal.invariant-loop-i
invariant-loop-i l = Passed l.text l.at l.i l.value
