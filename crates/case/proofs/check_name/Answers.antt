-- `case::check_name` meets its contract. Assumes nothing.
use Rattle.case.proofs.Means.{long-name, bad-name, good_name}
use Rattle.case.proofs.check_name.Goals as goal

pub returns-then-c-gt-MOST_NAME : goal.returns-then-c-gt-MOST_NAME
returns-then-c-gt-MOST_NAME c =
    search long-name

pub returns-then-not-name_printable : goal.returns-then-not-name_printable
returns-then-not-name_printable c =
    search bad-name

pub returns : goal.returns
returns c =
    search good_name
