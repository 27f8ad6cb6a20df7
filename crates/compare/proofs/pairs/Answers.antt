-- `compare::pairs` meets its contract. Assumes nothing.
use Rattle.compare.proofs.Threads.{row_differs, all-rows-equal}
use Rattle.compare.proofs.pairs.Goals as goal

pub returns-then-s-t : goal.returns-then-s-t
returns-then-s-t c =
    search row_differs

pub returns : goal.returns
returns c =
    search all-rows-equal
