-- `area::find_end` meets its contract. Assumes nothing.
use Prim.Native.Nat.{◌-◌}
use lib.ListN.{length}
use Rattle.area.proofs.Framing.{Seeking}
use Rattle.area.proofs.find_end.Given as goal

abbrev pub invariant-loop-size : goal.invariant-loop-size
invariant-loop-size l = Seeking l.area l.at

abbrev pub decreases-loop-size : goal.decreases-loop-size
decreases-loop-size l = length l.area - l.at
