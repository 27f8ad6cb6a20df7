-- `values::read_stores` meets its contract. Assumes nothing.
use mathlib.Core.Bool.{◌&&◌}
use lib.Dec.{eqb}
use Rattle.rows.specs.Sets.{order_in}
use Rattle.bits.specs.Bit.{bit}
use Rattle.values.specs.Parts.{must_read_of}
use Rattle.rows.proofs.Each.{Collected}
use Rattle.values.proofs.read_stores.Given as goal

abbrev pub invariant-loop-s : goal.invariant-loop-s
invariant-loop-s l = Collected l.k l.sources (λ s e. must_read_of l.k (bit l.sources) (bit l.rivals) (order_in l.known l.t) l.l s && eqb e s) l.s-iterator l.found
