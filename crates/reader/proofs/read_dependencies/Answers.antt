use Rattle.reader.specs.Answers.{StoresCounted}
use Rattle.reader.proofs.Filling.{exit}
use Rattle.reader.proofs.Fields.{up_to_most}
use Rattle.reader.proofs.Links.{first-edition, no_number, no_links_read, whole_links}
use Rattle.reader.proofs.read_dependencies.Goals as goal

pub returns-then-not-is_second : goal.returns-then-not-is_second
returns-then-not-is_second c =
    search first-edition

pub returns-in_err-count : goal.returns-in_err-count
returns-in_err-count c =
    exit (StoresCounted _ _ _) _ _ c.from_residual.ensures (no_number _ _ _ _ _ _ c.is_second.ensures c.if-not-is_second.false _ _ c.in_err-count.ensures)

pub read_links-requires-clause-count_le_most_dependencies : goal.read_links-requires-clause-count_le_most_dependencies
read_links-requires-clause-count_le_most_dependencies c =
    up_to_most _ _ _ _ _ c.in_ok-count.ensures

pub returns-in_err-end : goal.returns-in_err-end
returns-in_err-end c =
    exit (StoresCounted _ _ _) _ _ c.from_residual-in_err-end.ensures (no_links_read _ _ _ _ _ _ c.is_second.ensures c.if-not-is_second.false _ _ c.in_ok-count.ensures _ _ c.in_err-end.ensures)

pub returns : goal.returns
returns c =
    whole_links _ _ _ _ _ _ c.is_second.ensures c.if-not-is_second.false _ _ c.in_ok-count.ensures _ _ _ _ c.in_ok-end.ensures
