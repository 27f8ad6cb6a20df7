-- `rules::judged_sets` meets its contract. Assumes nothing.
use Rattle.rules.specs.Verdict.{judged_in}
use Rattle.rows.proofs.Loops.{Filled}
use Rattle.rules.proofs.judged_sets.Given as goal

abbrev pub invariant-loop-p : goal.invariant-loop-p
invariant-loop-p l = Filled l.n (judged_in l.model l.loads l.own l.seen) l.p l.out
