-- `case::Link::check` meets its contract. Assumes nothing.
use Rattle.case.proofs.Links.{out_of_range, unfit, fit}
use Rattle.case.proofs.Link.check.Goals as goal

pub returns-then-not-is_within : goal.returns-then-not-is_within
returns-then-not-is_within c =
    search out_of_range

pub returns-then-not-follows : goal.returns-then-not-follows
returns-then-not-follows c =
    search unfit

pub returns : goal.returns
returns c =
    search fit
