-- `rows::by_event` meets its contract. Assumes nothing.
use mathlib.Core.Bool.{◌&&◌}
use lib.ListN.{get_or}
use Rattle.rows.specs.Sets.{set_in}
use Rattle.bits.specs.Bit.{bit}
use Rattle.rows.proofs.Loops.{Filled}
use Rattle.rows.proofs.by_event.Given as goal

abbrev pub invariant-loop-e : goal.invariant-loop-e
invariant-loop-e l = Filled l.k (λ e i. bit l.set e && set_in l.sets (get_or l.bytes e 0) i) l.e l.out
