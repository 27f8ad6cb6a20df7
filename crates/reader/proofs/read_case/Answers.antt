use Rattle.reader.proofs.Whole.{from_start}
use Rattle.reader.proofs.read_case.Goals as goal

pub returns : goal.returns
returns c =
    search from_start
