-- `rules::fresh_loads` meets its contract. Assumes nothing.
use mathlib.Core.Bool.{◌&&◌}
use lib.Dec.{eqb}
use Rattle.rules.specs.Verdict.{fresh_in}
use Rattle.rows.proofs.Loops.{United}
use Rattle.rules.proofs.fresh_loads.Given as goal

abbrev pub invariant-loop-l : goal.invariant-loop-l
invariant-loop-l turn = United turn.k (λ l e. fresh_in turn.loads turn.values turn.addresses turn.initial' l && eqb e l) turn.l turn.found
