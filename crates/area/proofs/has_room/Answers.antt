-- `area::has_room` meets its contract. Assumes nothing.
use Rattle.area.proofs.Appending.{room_is}
use Rattle.area.proofs.has_room.Goals as goal

pub returns : goal.returns
returns c =
    search room_is
