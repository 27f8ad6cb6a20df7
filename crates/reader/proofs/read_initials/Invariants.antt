use Rattle.reader.proofs.Initials.{Initials}
use Rattle.reader.proofs.read_initials.Given as goal

abbrev pub invariant-loop-x : goal.invariant-loop-x
invariant-loop-x l = Initials l.bytes l.at l.addresses l.values l.place l.x
