-- `coherence::up_to` meets its contract. Assumes nothing.
use mathlib.Core.Bool.{◌&&◌, ◌||◌}
use lib.Dec.{eqb}
use Rattle.bits.specs.Bit.{bit}
use Rattle.rows.proofs.Loops.{United}
use Rattle.storage.specs.Held.{edge_in}
use Rattle.coherence.proofs.up_to.Given as goal

abbrev pub invariant-loop-w : goal.invariant-loop-w
invariant-loop-w l = United l.k (λ w v. bit l.set w && (eqb v w || edge_in l.before v w)) l.w l.out
