use Rattle.reader.proofs.Events.{EventsFilled}
use Rattle.reader.proofs.read_events.Given as goal

abbrev pub invariant-loop-e : goal.invariant-loop-e
invariant-loop-e l = EventsFilled l.bytes l.at l.head.edition l.head.threads l.head.addresses l.count l.kinds l.owners l.targets l.values l.place l.e
