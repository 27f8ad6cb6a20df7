-- `by_columns::Barriers::cumulative_order` meets its contract. Assumes nothing.
use borrow.Author.Rules.{rules}
use borrow.Author.Tests.{tests}
use Prim.Native.Nat.{ℕ}
use mathlib.Core.Bool.{Bool}
use mathlib.Core.Path.{sym, ◌∙◌}
use Rattle.bits.specs.Bit.{bit}
use Rattle.finite.proofs.Tests.{imp_no}
use Rattle.rows.specs.Sets.{order_in}
use Rattle.values.specs.Parts.{cumulative}
use Rattle.values.proofs.Laws.{fences_set}
use Rattle.by_columns.specs.Parts.{applies_in}
use Rattle.values.proofs.Members.{serves_members, all_members}
use Rattle.by_columns.proofs.Barriers.cumulative_order.Goals as goal

pub all-requires-clause-callable : goal.all-requires-clause-callable
all-requires-clause-callable c = serves_members c.args.self.now.orders.k c.both-fences.result c.members_below.ensures (λ x q k. search (rules, tests)) (λ x l m. let fence = sym ((fences_set c.args.self.now.barriers c.args.own c.both-fences.ensures).has x) ∙ m in search rules)

pub returns : goal.returns
returns c =
    let a = c.args in
    let o = a.self.now in
    let applies : ℕ → ℕ → ℕ → Bool = applies_in o.barriers o.syncs o.stores o.loads in
    all_members o.orders.k c.both-fences.result (cumulative o.orders.k o.orders.n (bit a.own) (bit o.barriers) applies (order_in o.orders.rows.now a.p) (order_in o.orders.rows.now)) _ _ _ (λ x b q k. search (rules, tests)) c.all.ensures.ran c.members_below.ensures (λ i h. imp_no _ _ (sym ((fences_set o.barriers a.own c.both-fences.ensures).has i) ∙ h))
