-- `transitions::unrelated` meets its contract. Assumes nothing.
use Rattle.transitions.proofs.Commits.{is_before, not-before}
use Rattle.transitions.proofs.unrelated.Goals as goal

pub returns-then-not-has : goal.returns-then-not-has
returns-then-not-has c =
    search not-before

pub returns-else-not-has : goal.returns-else-not-has
returns-else-not-has c =
    search is_before
