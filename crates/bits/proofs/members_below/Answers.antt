-- `bits::members_below` meets its contract. Assumes nothing.
use mathlib.Core.Path.{ap, ◌∙◌}
use Prim.Native.Nat.{ℕ}
use lib.Bits.{bit_and}
use Rattle.bits.specs.Bit.{bit}
use Rattle.bits.proofs.Bits.{bit_below}
use Rattle.bits.proofs.members_below.Goals as goal

pub returns : goal.returns
returns c = λ e.
    ap (λ (m : ℕ). bit m e) (c.members.ensures ∙ c.both.ensures ∙ ap (bit_and c.args.set) c.below.ensures)
    ∙ bit_below c.args.set c.args.k e
