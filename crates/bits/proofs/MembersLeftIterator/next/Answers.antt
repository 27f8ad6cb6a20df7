-- `MembersLeft::next` meets its contract. Assumes nothing.
use Prim.Native.Nat.{ℕ, ◌-◌}
use mathlib.Core.Path.{sym, ap, ◌∙◌, subst}
use lib.Bits.{bit_and}
use lib.Count.{count_trailing_zeros}
use Rattle.bits.specs.Bit.{bit, width}
use Rattle.bits.specs.Members.{Taken}
use Rattle.bits.proofs.Bits.{bit-zero}
use Rattle.bits.proofs.Lowest.{takes_lowest}
use Rattle.bits.proofs.MembersLeftIterator.next.Goals as goal

pub returns-then-self-eq0-clause-steps : goal.returns-then-self-eq0-clause-steps
returns-then-self-eq0-clause-steps c = λ e. ap (λ (s : ℕ). bit s e) (sym c.self.view_is ∙ c.if-self-eq0.true) ∙ bit-zero e

pub returns-clause-steps : goal.returns-clause-steps
returns-clause-steps c =
    let n = c.self.inside.rest in
    subst (λ (s : ℕ). Taken s (count_trailing_zeros width n) (bit_and n (n - 1))) c.self.view_is
    (takes_lowest n c.self.invariant c.if-self-eq0.false)
