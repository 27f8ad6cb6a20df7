use Rattle.reader.proofs.Tables.{Orders}
use Rattle.reader.proofs.read_orders.Given as goal

abbrev pub invariant-loop-p : goal.invariant-loop-p
invariant-loop-p l = Orders l.bytes l.at l.threads l.k l.initial.rows l.rows l.place l.p
