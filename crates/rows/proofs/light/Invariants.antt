-- `rows::light` meets its contract. Assumes nothing.
use mathlib.Core.Bool.{◌&&◌}
use lib.Dec.{ltb}
use Rattle.rows.specs.Sets.{light_in}
use Rattle.rows.proofs.Loops.{Filled}
use Rattle.rows.proofs.light.Given as goal

abbrev pub invariant-loop-e : goal.invariant-loop-e
invariant-loop-e l = Filled l.k (λ e g. ltb g l.k && light_in l.barriers l.stores l.loads e g) l.e l.out
