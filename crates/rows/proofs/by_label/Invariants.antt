-- `rows::by_label` meets its contract. Assumes nothing.
use mathlib.Core.Bool.{◌&&◌}
use lib.Dec.{eqb, ltb}
use lib.ListN.{get_or}
use Rattle.bits.specs.Bit.{bit}
use Rattle.rows.proofs.Loops.{Filled}
use Rattle.model.specs.Limits.{most_threads}
use Rattle.rows.proofs.by_label.Given as goal

abbrev pub invariant-loop-x : goal.invariant-loop-x
invariant-loop-x l = Filled most_threads (λ x e. bit l.set e && (ltb e l.k && eqb (get_or l.bytes e 0) x)) l.x l.out
