-- `by_columns::Barriers::carried` meets its contract. Assumes nothing.
use borrow.Author.Rules.{rules}
use borrow.Author.Tests.{tests}
use Prim.Native.Nat.{ℕ}
use mathlib.Core.Bool.{Bool}
use mathlib.Core.Path.{◌∙◌}
use Rattle.bits.specs.Bit.{bit}
use Rattle.finite.proofs.Tests.{imp_no}
use Rattle.rows.specs.Sets.{order_in}
use Rattle.by_columns.specs.Parts.{applies_in, carried_to}
use Rattle.by_columns.proofs.Laws.{by_last}
use Rattle.values.proofs.Members.{serves_members, all_members}
use Rattle.by_columns.proofs.Barriers.carried.Goals as goal

pub all-requires-clause-callable : goal.all-requires-clause-callable
all-requires-clause-callable c = serves_members c.args.self.now.orders.k c.args.then c.members_below.ensures (λ x q k. search (rules, tests)) (λ x l m. search rules)

pub returns : goal.returns
returns c =
    let a = c.args in
    let o = a.self.now in
    let applies : ℕ → ℕ → ℕ → Bool = applies_in o.barriers o.syncs o.stores o.loads in
    all_members o.orders.k a.then (carried_to o.orders.k o.orders.n (bit a.first) (bit a.then) (applies a.f) (order_in o.orders.rows.now)) _ _ _ (λ x b q k. search (rules, tests)) c.all.ensures.ran c.members_below.ensures (λ i h. imp_no _ _ h)
    ∙ by_last o.orders.k o.orders.n (bit a.first) (bit a.then) (applies a.f) (order_in o.orders.rows.now)
