use Rattle.reader.proofs.Fields.{counts_in}
use Rattle.reader.proofs.read_head.Goals as goal

pub invariant_of-head : goal.invariant_of-head
invariant_of-head c =
    record { in_range = counts_in _ _ _ _ _ _ c.in_ok-threads.ensures c.in_ok-addresses.ensures }
