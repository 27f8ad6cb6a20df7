use Rattle.reader.specs.Answers.{StoresCounted}
use Rattle.reader.proofs.Filling.{exit}
use Rattle.reader.proofs.Fields.{no_initials, no_count, no_events_read, whole-listing, up_to_most}
use Rattle.reader.proofs.read_listing.Goals as goal

pub returns-in_err-after_initials : goal.returns-in_err-after_initials
returns-in_err-after_initials c =
    exit (StoresCounted _ _ _) _ _ c.from_residual.ensures (no_initials _ _ _ _ _ _ _ c.in_err-after_initials.ensures)

pub returns-in_err-count : goal.returns-in_err-count
returns-in_err-count c =
    exit (StoresCounted _ _ _) _ _ c.from_residual-in_err-count.ensures (no_count _ _ _ _ _ _ _ c.in_ok-after_initials.ensures _ _ c.in_err-count.ensures)

pub read_events-requires-clause-count_le_most_events : goal.read_events-requires-clause-count_le_most_events
read_events-requires-clause-count_le_most_events c =
    up_to_most _ _ _ _ _ c.in_ok-count.ensures

pub returns-in_err-end : goal.returns-in_err-end
returns-in_err-end c =
    exit (StoresCounted _ _ _) _ _ c.from_residual-in_err-end.ensures (no_events_read _ _ _ _ _ _ _ c.in_ok-after_initials.ensures _ _ c.in_ok-count.ensures _ _ c.in_err-end.ensures)

pub returns : goal.returns
returns c =
    whole-listing _ _ _ _ _ _ _ c.in_ok-after_initials.ensures _ _ c.in_ok-count.ensures _ _ _ _ _ c.in_ok-end.ensures
