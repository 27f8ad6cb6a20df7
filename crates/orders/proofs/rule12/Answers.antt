-- `orders::rule12` meets its contract. Assumes nothing.
use mathlib.Core.Path.{refl}
use borrow.Author.Rules.{rules}
use borrow.Author.Tests.{tests}
use Rattle.finite.specs.Tests.{all}
use Rattle.rows.specs.Sets.{order_in, set_in}
use Rattle.rows.specs.May.{may12}
use Rattle.rows.proofs.Ranges.{all_below}
use Rattle.orders.specs.Parts.{connected}
use Rattle.orders.proofs.rule12.Goals as goal

pub returns : goal.returns
unfolding may12
returns c =
    let s = c.args in
    all_below s.n (λ p. all s.k (connected s.k (set_in s.own.now p) (order_in s.asked.now p))) c.all.ensures.ran refl (λ x b q k. search (rules, tests))
