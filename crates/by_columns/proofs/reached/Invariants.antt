-- `by_columns::reached` meets its contract. Assumes nothing.
use mathlib.Core.Bool.{◌&&◌}
use Rattle.bits.specs.Bit.{bit}
use Rattle.rows.specs.Sets.{set_in}
use Rattle.rows.proofs.Each.{Collected}
use Rattle.by_columns.proofs.reached.Given as goal

abbrev pub invariant-loop-s : goal.invariant-loop-s
invariant-loop-s l = Collected l.k l.set (λ s g. bit l.set s && set_in l.behind s g) l.s-iterator l.found
