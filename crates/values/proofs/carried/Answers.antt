-- `values::carried` meets its contract. Assumes nothing.
use borrow.Author.Rules.{rules}
use borrow.Author.Tests.{tests}
use Rattle.finite.proofs.Tests.{imp_no}
use Rattle.finite.specs.Tests.{all, ◌⇒◌}
use Rattle.bits.specs.Bit.{bit}
use Rattle.rows.specs.Sets.{order_in, applicable_in}
use mathlib.Core.Bool.{◌&&◌}
use Rattle.values.proofs.Members.{serves_members, all_members}
use Rattle.values.proofs.carried.Goals as goal

pub all-requires-clause-callable : goal.all-requires-clause-callable
all-requires-clause-callable c = serves_members c.args.k c.args.first c.members_below.ensures (λ x q k. search (rules, tests)) (λ x l m. search rules)

pub returns : goal.returns
returns c =
    let a = c.args in
    all_members a.k a.first (λ e. bit a.first e ⇒ all a.n (λ q. all a.k (λ g. (bit a.then g && applicable_in a.syncs a.light.now a.f e g) ⇒ order_in a.asked.now q e g))) _ _ _ (λ x b q k. search (rules, tests)) c.all.ensures.ran c.members_below.ensures (λ i h. imp_no _ _ h)
