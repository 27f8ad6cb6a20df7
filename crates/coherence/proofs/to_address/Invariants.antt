-- `coherence::to_address` meets its contract. Assumes nothing.
use mathlib.Core.Bool.{◌&&◌}
use lib.Dec.{eqb}
use lib.ListN.{get_or}
use Rattle.rows.proofs.Loops.{United}
use Rattle.coherence.proofs.to_address.Given as goal

abbrev pub invariant-loop-w : goal.invariant-loop-w
invariant-loop-w l = United l.k (λ w e. eqb e w && eqb (get_or l.address w 0) l.a) l.w l.set
