-- `bits::has` meets its contract. Assumes nothing.
use mathlib.Core.Path.{ap}
use Prim.Native.Nat.{ℕ, ◌/◌, ◌^◌}
use lib.Dec.{eqb}
use lib.Bits.{and_mask}
use Rattle.bits.specs.Bit.{bit}
use Rattle.bits.proofs.has.Goals as goal

pub returns : goal.returns
unfolding bit
returns c =
    ap (λ (x : ℕ). eqb x 1) (and_mask (c.args.row / 2 ^ c.args.i) 1)
