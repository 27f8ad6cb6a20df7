-- `values::explained_stores` meets its contract. Assumes nothing.
use borrow.Author.Rules.{rules}
use borrow.Author.Tests.{tests}
use Rattle.finite.proofs.Tests.{imp_no}
use Rattle.bits.specs.Bit.{bit}
use Rattle.rows.specs.Sets.{order_in}
use Rattle.values.specs.Parts.{explained, equal_in}
use Rattle.values.proofs.Members.{serves_members, all_members}
use Rattle.values.proofs.explained_stores.Goals as goal

pub all-requires-clause-callable : goal.all-requires-clause-callable
all-requires-clause-callable c = serves_members c.args.k c.args.those c.members_below.ensures (λ x q k. search (rules, tests)) (λ x l m. search rules)

pub returns : goal.returns
returns c =
    let a = c.args in
    all_members a.k a.those (explained a.k (bit a.those) (bit a.between) (equal_in a.values.now) (order_in a.asked.now a.p) a.l) _ _ _ (λ x b q k. search (rules, tests)) c.all.ensures.ran c.members_below.ensures (λ i h. imp_no _ _ h)
