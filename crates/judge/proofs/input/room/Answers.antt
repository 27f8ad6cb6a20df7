-- `judge::input::room` meets its contract: zeros for two records of the last edition, and so room for every record.
-- Assumes nothing.
use Rattle.std.proofs.Common.{◌*◌, sym, ap}
use Rattle.laws.proofs.Bound.{most_is}
use Rattle.judge.proofs.Room.{two_records}
use Rattle.judge.proofs.input.room.Goals as goal

pub returns : goal.returns
returns c =
    let both = two_records (ap (λ x. 2 * x) (sym most_is.1)) in record { value = both.0; by_index = both.1 }
