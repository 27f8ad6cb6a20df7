-- `bits::inside` meets its contract. Assumes nothing.
use Rattle.bits.proofs.Bits.{bit-inside}
use Rattle.bits.proofs.inside.Goals as goal

pub returns : goal.returns
returns c =
    bit-inside 64 c.args.a c.args.b c.ranges.a.fits
