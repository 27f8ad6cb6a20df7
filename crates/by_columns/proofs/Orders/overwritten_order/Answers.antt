-- `by_columns::Orders::overwritten_order` meets its contract. Assumes nothing.
use borrow.Author.Rules.{rules}
use borrow.Author.Tests.{tests}
use Rattle.bits.specs.Bit.{bit}
use Rattle.finite.proofs.Tests.{imp_no}
use Rattle.rows.specs.Sets.{order_in, store_in}
use Rattle.values.specs.Parts.{equal_in, overwritten}
use Rattle.values.proofs.Members.{serves_members, all_members}
use Rattle.by_columns.proofs.Orders.overwritten_order.Goals as goal

pub all-requires-clause-callable : goal.all-requires-clause-callable
all-requires-clause-callable c = serves_members c.args.self.now.k c.args.judged c.members_below.ensures (λ x q k. search (rules, tests)) (λ x l m. search rules)

pub returns : goal.returns
returns c =
    let a = c.args in
    let o = a.self.now in
    all_members o.k a.judged (overwritten o.k (bit a.judged) (bit a.seen) (store_in a.stores a.partners.now) (equal_in a.values.now) (order_in o.rows.now a.p)) _ _ _ (λ x b q k. search (rules, tests)) c.all.ensures.ran c.members_below.ensures (λ i h. imp_no _ _ h)
