-- `rows::after_anywhere` meets its contract. Assumes nothing.
use Rattle.rows.specs.Sets.{order_in}
use Rattle.rows.proofs.Loops.{United}
use Rattle.rows.proofs.after_anywhere.Given as goal

abbrev pub invariant-loop-p : goal.invariant-loop-p
invariant-loop-p l = United l.n (λ p e. order_in l.rows p l.a e) l.p l.found
