use Rattle.reader.specs.Answers.{Stores}
use Rattle.reader.proofs.Filling.{exit}
use Rattle.reader.proofs.Orders.{no_count, count_in, whole-order}
use Rattle.reader.proofs.read_order.Goals as goal

pub returns-in_err-count : goal.returns-in_err-count
returns-in_err-count c =
    exit (Stores _ _) _ _ c.from_residual.ensures (no_count _ _ _ _ _ c.in_err-count.ensures)

pub read_pairs-requires-clause-k_le_most_events : goal.read_pairs-requires-clause-k_le_most_events
read_pairs-requires-clause-k_le_most_events c =
    (c.requires.k_le_most_events, count_in _ _ _ _ _ c.in_ok-count.ensures)

pub returns : goal.returns
returns c =
    whole-order _ _ _ _ _ c.in_ok-count.ensures _ _ c.read_pairs.ensures
