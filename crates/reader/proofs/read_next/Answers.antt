use Rattle.reader.proofs.Runs.{pair_at_once}
use Rattle.reader.proofs.read_next.Goals as goal

pub returns-then-least-a : goal.returns-then-least-a
returns-then-least-a c =
    search pair_at_once
