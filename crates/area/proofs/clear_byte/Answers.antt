-- `area::clear_byte` meets its contract. Assumes nothing.
use Rattle.area.proofs.Clearing.{was_unused, was_used}
use Rattle.area.proofs.clear_byte.Goals as goal

pub returns-then-area-at : goal.returns-then-area-at
returns-then-area-at c =
    search was_unused

pub returns : goal.returns
returns c =
    search was_used
