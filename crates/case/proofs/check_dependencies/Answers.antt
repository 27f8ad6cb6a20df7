-- `case::check_dependencies` meets its contract. Assumes nothing.
use Rattle.case.proofs.Means.{many_links, those_links}
use Rattle.case.proofs.check_dependencies.Goals as goal

pub returns-then-count-gt-MOST_DEPENDENCIES : goal.returns-then-count-gt-MOST_DEPENDENCIES
returns-then-count-gt-MOST_DEPENDENCIES c =
    search many_links

pub returns : goal.returns
returns c =
    search those_links
