-- `rules::seen_sets` meets its contract. Assumes nothing.
use Rattle.rows.proofs.Loops.{Filled}
use Rattle.rules.specs.Verdict.{seen_in}
use Rattle.rules.proofs.seen_sets.Given as goal

abbrev pub invariant-loop-p : goal.invariant-loop-p
invariant-loop-p l = Filled l.n (seen_in l.k l.rows l.own) l.p l.out
