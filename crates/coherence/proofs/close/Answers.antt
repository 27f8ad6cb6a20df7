-- `coherence::close` meets its contract. Assumes nothing.
use borrow.Author.Rules.{rules}
use Rattle.coherence.proofs.Loops.{reached-begun, reached-more, reached-size, reached-all}
use Rattle.coherence.proofs.close.Goals as goal

pub loop-j-init : goal.loop-j-init
loop-j-init c =
    reached-begun

pub by_way_of-requires-clause-k_le_most_writes : goal.by_way_of-requires-clause-k_le_most_writes
by_way_of-requires-clause-k_le_most_writes c =
    search (reached-size, rules)

pub by_way_of-requires-clause-j_lt_k : goal.by_way_of-requires-clause-j_lt_k
by_way_of-requires-clause-j_lt_k c =
    search (reached-size, rules)

pub loop-j-preserved : goal.loop-j-preserved
loop-j-preserved c =
    search reached-more

pub returns-clause-same : goal.returns-clause-same
returns-clause-same c =
    search reached-all

pub returns-clause-size : goal.returns-clause-size
returns-clause-size c =
    search reached-size
