use Rattle.reader.proofs.Runs.{Rising}
use Rattle.reader.proofs.take_pairs.Given as goal

abbrev pub invariant-loop-b : goal.invariant-loop-b
invariant-loop-b l = Rising l.bytes l.a l.fn.start.place l.fn.start.low l.fn.start.row l.fn.start.left l.run.place l.run.low l.run.row l.run.left

abbrev pub decreases-loop-b : goal.decreases-loop-b
decreases-loop-b l = l.run.left
