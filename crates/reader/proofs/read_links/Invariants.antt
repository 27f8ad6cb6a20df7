use Rattle.case.specs.Held.{good_at}
use Rattle.reader.proofs.Links.{LinksFilled}
use Rattle.reader.proofs.read_links.Given as goal

abbrev pub invariant-loop-i : goal.invariant-loop-i
invariant-loop-i l = LinksFilled l.bytes l.at l.events.count l.count (good_at l.events.count l.events.kinds.now l.events.owners.now) l.classes l.froms l.tos l.place l.least l.i
