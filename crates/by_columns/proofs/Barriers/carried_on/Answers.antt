-- `by_columns::Barriers::carried_on` meets its contract. Assumes nothing.
use borrow.Author.Rules.{rules}
use borrow.Author.Tests.{tests}
use mathlib.Core.Path.{refl}
use Rattle.finite.specs.Tests.{all}
use Rattle.bits.specs.Bit.{bit}
use Rattle.rows.specs.Sets.{order_in, set_in}
use Rattle.by_columns.specs.Parts.{applies_in, carried_behind}
use Rattle.rows.proofs.Ranges.{all_below}
use Rattle.by_columns.proofs.Barriers.carried_on.Goals as goal

pub returns : goal.returns
returns c =
    let a = c.args in
    let o = a.self.now in
    all_below o.orders.n (λ p. all o.orders.k (carried_behind o.orders.k o.orders.n (set_in a.own.now p) (bit o.barriers) (applies_in o.barriers o.syncs o.stores o.loads) (bit o.stores) (set_in a.behind.now) p (order_in o.orders.rows.now))) c.all.ensures.ran refl (λ x b q k. search (rules, tests))
