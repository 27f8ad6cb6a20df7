use Prim.Native.Nat.{◌+◌, ◌-◌}
use Rattle.reader.proofs.Runs.{Running}
use Rattle.reader.proofs.take_run.Given as goal

abbrev pub invariant-loop-missed : goal.invariant-loop-missed
invariant-loop-missed l = Running l.bytes l.k l.a l.start.place l.start.low l.start.row l.start.left l.last l.run.place l.run.low l.run.row l.run.left l.missed

abbrev pub decreases-loop-missed : goal.decreases-loop-missed
decreases-loop-missed l = l.run.left + l.run.left - l.missed
