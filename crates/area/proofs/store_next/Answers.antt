-- `area::store_next` meets its contract. Assumes nothing.
use Rattle.area.proofs.Storing.{byte-stored, flag-stored}
use Rattle.area.proofs.store_next.Goals as goal

pub returns-then-made-size : goal.returns-then-made-size
returns-then-made-size c =
    search byte-stored

pub returns : goal.returns
returns c =
    search flag-stored
