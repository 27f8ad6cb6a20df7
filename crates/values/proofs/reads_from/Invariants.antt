-- `values::reads_from` meets its contract. Assumes nothing.
use mathlib.Core.Bool.{◌&&◌}
use lib.Dec.{ltb}
use Rattle.rows.specs.Sets.{order_in, store_in}
use Rattle.bits.specs.Bit.{bit}
use Rattle.values.specs.Parts.{thread_in}
use Rattle.rows.proofs.Loops.{Filled}
use Rattle.rows.specs.May.{must_read}
use Rattle.values.proofs.reads_from.Given as goal

abbrev pub invariant-loop-l : goal.invariant-loop-l
invariant-loop-l turn = Filled turn.k (λ l s. ltb s turn.k && must_read turn.k (bit turn.loads) (store_in turn.stores turn.partners) (thread_in turn.threads) (order_in turn.known) (order_in turn.asked) l s) turn.l turn.out
