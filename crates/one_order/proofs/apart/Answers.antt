-- `one_order::apart` meets its contract. Assumes nothing.
use Rattle.bits.specs.Bit.{width}
use Rattle.one_order.proofs.Disjoint.{bit_apart}
use Rattle.one_order.proofs.apart.Goals as goal

pub returns : goal.returns
returns c =
    bit_apart width c.args.a c.args.b c.ranges.a.fits
