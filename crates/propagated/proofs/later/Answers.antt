-- `propagated::later` meets its contract. Assumes nothing.
use Rattle.propagated.proofs.Entries.{later_write, later_other, later_barrier}
use Rattle.propagated.proofs.later.Goals as goal
use Rattle.propagated.proofs.later.Goals.{else-e-lt-MOST_WRITES-via-then-e-lt-MOST_WRITES+else-address-e, else-e-lt-MOST_WRITES-via-else-e-lt-MOST_WRITES}

pub returns-then-address-e : goal.returns-then-address-e
returns-then-address-e c =
    search later_write

pub returns-else-e-lt-MOST_WRITES : goal.returns-else-e-lt-MOST_WRITES
returns-else-e-lt-MOST_WRITES c =
    elim c.else-e-lt-MOST_WRITES.branch [
      | else-e-lt-MOST_WRITES-via-then-e-lt-MOST_WRITES+else-address-e w ↦ search later_other
      | else-e-lt-MOST_WRITES-via-else-e-lt-MOST_WRITES w ↦ search later_barrier
    ]
