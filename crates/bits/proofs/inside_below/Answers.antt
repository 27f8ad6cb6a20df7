-- `bits::inside_below` meets its contract. Assumes nothing.
use mathlib.Core.Path.{ap, ◌∙◌}
use Prim.Native.Nat.{ℕ}
use lib.Bits.{bit_and}
use Rattle.finite.specs.Tests.{all, ◌⇒◌}
use Rattle.bits.specs.Bit.{bit, width}
use Rattle.bits.proofs.Bits.{inside_masked}
use Rattle.bits.proofs.inside_below.Goals as goal

pub returns : goal.returns
returns c =
    c.inside.ensures
    ∙ ap (λ (m : ℕ). all width (λ j. bit m j ⇒ bit c.args.b j))
    (c.both.ensures ∙ ap (bit_and c.args.a) c.below.ensures)
    ∙ inside_masked width c.args.k c.args.a c.args.b c.requires
