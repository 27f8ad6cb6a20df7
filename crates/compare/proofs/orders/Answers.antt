-- `compare::orders` meets its contract. Assumes nothing.
use Rattle.compare.proofs.Threads.{counts-equal, counts_differ}
use Rattle.compare.proofs.orders.Goals as goal

pub returns-then-n-m : goal.returns-then-n-m
returns-then-n-m c =
    search counts-equal

pub returns-else-n-m : goal.returns-else-n-m
returns-else-n-m c =
    search counts_differ
