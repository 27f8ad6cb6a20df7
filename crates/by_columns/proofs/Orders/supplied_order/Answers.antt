-- `by_columns::Orders::supplied_order` meets its contract. Assumes nothing.
use borrow.Author.Rules.{rules}
use borrow.Author.Tests.{tests}
use mathlib.Core.Path.{sym, ◌∙◌}
use mathlib.Core.Bool.{◌&&◌}
use Rattle.finite.specs.Tests.{some}
use Rattle.bits.specs.Bit.{bit}
use Rattle.rows.specs.Sets.{order_in, store_in}
use Rattle.values.specs.Parts.{supplied}
use Rattle.by_columns.proofs.Laws.{unchanged}
use Rattle.values.proofs.Members.{serves_members, all_members}
use Rattle.by_columns.proofs.Orders.supplied_order.Goals as goal

pub all-requires-clause-callable : goal.all-requires-clause-callable
all-requires-clause-callable c = serves_members c.args.self.now.k c.minus-changed.result c.members_below.ensures (λ x q k. search (rules, tests)) (λ x l m. let changed = sym (c.minus-changed.ensures.has x) ∙ m in search rules)

pub returns : goal.returns
returns c =
    let a = c.args in
    let o = a.self.now in
    all_members o.k c.minus-changed.result (supplied o.k (bit a.judged) (bit a.fresh) (store_in a.stores a.partners.now) (order_in o.rows.now a.p)) _ _ _ (λ x b q k. search (rules, tests)) c.all.ensures.ran c.members_below.ensures (unchanged a.judged a.fresh (λ l. some o.k (λ x. store_in a.stores a.partners.now l x && order_in o.rows.now a.p x l)) c.minus-changed.ensures)
