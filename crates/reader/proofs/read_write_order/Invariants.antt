use Rattle.reader.proofs.Stores.{Writing}
use Rattle.reader.proofs.read_write_order.Given as goal

abbrev pub invariant-loop-j : goal.invariant-loop-j
invariant-loop-j l = Writing l.bytes l.at l.events.count l.x l.events.kinds.now l.events.targets.now l.initial.writes l.count l.writes l.place l.before l.j
