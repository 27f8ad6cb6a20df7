-- `values::reached` meets its contract. Assumes nothing.
use mathlib.Core.Bool.{◌&&◌}
use Rattle.finite.specs.Tests.{some}
use Rattle.rows.specs.Sets.{order_in, set_in}
use Rattle.bits.specs.Bit.{bit}
use Rattle.values.specs.Parts.{thread_in}
use Rattle.rows.proofs.Loops.{United}
use Rattle.values.proofs.reached.Given as goal

abbrev pub invariant-loop-l : goal.invariant-loop-l
invariant-loop-l turn = United turn.k (λ l g. some turn.k (λ s. set_in turn.read l s && bit turn.set s) && order_in turn.known (thread_in turn.threads l) l g) turn.l turn.found
