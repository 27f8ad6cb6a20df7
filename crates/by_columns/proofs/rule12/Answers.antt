-- `by_columns::rule12` meets its contract. Assumes nothing.
use borrow.Author.Rules.{rules}
use borrow.Author.Tests.{tests}
use mathlib.Core.Path.{refl}
use Rattle.finite.specs.Tests.{all}
use Rattle.rows.specs.Sets.{order_in, set_in}
use Rattle.rows.specs.May.{may12}
use Rattle.orders.specs.Parts.{connected}
use Rattle.rows.proofs.Ranges.{all_below}
use Rattle.by_columns.proofs.rule12.Goals as goal

pub returns : goal.returns
unfolding may12
returns c =
    let a = c.args in
    all_below a.n (λ p. all a.k (connected a.k (set_in a.own.now p) (order_in a.rows.now p))) c.all.ensures.ran refl (λ x b q k. search (rules, tests))
