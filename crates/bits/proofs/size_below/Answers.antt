-- `bits::size_below` meets its contract. Assumes nothing.
use mathlib.Core.Path.{ap, ◌∙◌}
use mathlib.Core.Bool.{◌&&◌}
use Prim.Native.Nat.{ℕ}
use lib.Bits.{bit_and}
use lib.Dec.{ltb}
use Rattle.finite.proofs.Tests.{count_same}
use Rattle.bits.specs.Bit.{bit, width}
use Rattle.bits.proofs.Bits.{bit_below}
use Rattle.bits.proofs.Count.{ones_count, count-below}
use Rattle.bits.proofs.size_below.Goals as goal

pub returns : goal.returns
returns c =
    ones_count width c.both.result c.both.type_inv
    ∙ count_same width (bit c.both.result) (λ j. bit c.args.row j && ltb j c.args.k)
    (λ j l. ap (λ (m : ℕ). bit m j) (c.both.ensures ∙ ap (bit_and c.args.row) c.below.ensures) ∙ bit_below c.args.row c.args.k j)
    ∙ count-below width c.args.k (bit c.args.row) c.requires
