use Rattle.reader.proofs.Orders.{Pairing}
use Rattle.reader.proofs.read_pairs.Given as goal

abbrev pub invariant-loop-left : goal.invariant-loop-left
invariant-loop-left l = Pairing l.bytes l.at l.k l.count l.initial.rows l.rows l.place l.least l.left

abbrev pub decreases-loop-left : goal.decreases-loop-left
decreases-loop-left l = l.left
