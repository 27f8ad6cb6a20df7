use Rattle.reader.proofs.Tables.{Writes}
use Rattle.reader.proofs.read_writes.Given as goal

abbrev pub invariant-loop-x : goal.invariant-loop-x
invariant-loop-x l = Writes l.bytes l.at l.addresses l.events.count l.events.kinds.now l.events.targets.now l.initial.writes l.writes l.place l.x
