-- `area::store_frame` meets its contract. Assumes nothing.
use lib.ListN.{take}
use Rattle.area_model.specs.Area.{appending}
use Rattle.area.proofs.Storing.{Storing}
use Rattle.area.proofs.store_frame.Given as goal

abbrev pub invariant-loop-made : goal.invariant-loop-made
invariant-loop-made l = Storing l.initial.area (appending l.end (take l.size l.bytes)) l.size l.allowed l.area l.made
