-- `area::check_room` meets its contract. Assumes nothing.
use Rattle.area.proofs.Appending.{no_room, unrepaired, free-room}
use Rattle.area.proofs.check_room.Goals as goal

-- any of the three ways may answer at each return: what is answered decides, and not where it stands

pub returns-then-not-has_room : goal.returns-then-not-has_room
returns-then-not-has_room c =
    search (no_room, unrepaired, free-room)

pub returns-then-not-all_unused : goal.returns-then-not-all_unused
returns-then-not-all_unused c =
    search (no_room, unrepaired, free-room)

pub returns : goal.returns
returns c =
    search (no_room, unrepaired, free-room)
