-- `rows::labelled` meets its contract. Assumes nothing.
use mathlib.Core.Bool.{◌&&◌}
use lib.Dec.{eqb}
use lib.ListN.{get_or}
use Rattle.rows.proofs.Loops.{United}
use Rattle.rows.proofs.labelled.Given as goal

abbrev pub invariant-loop-e : goal.invariant-loop-e
invariant-loop-e l = United l.k (λ e i. eqb (get_or l.bytes e 0) l.x && eqb i e) l.e l.found
