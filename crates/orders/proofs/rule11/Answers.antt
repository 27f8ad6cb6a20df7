-- `orders::rule11` meets its contract. Assumes nothing.
use mathlib.Core.Path.{refl}
use borrow.Author.Rules.{rules}
use borrow.Author.Tests.{tests}
use Rattle.finite.specs.Tests.{all}
use Rattle.rows.specs.Sets.{order_in}
use Rattle.rows.specs.May.{may11}
use Rattle.rows.proofs.Ranges.{all_below}
use Rattle.orders.specs.Parts.{closed}
use Rattle.orders.proofs.rule11.Goals as goal

pub returns : goal.returns
unfolding may11
returns c =
    let s = c.args in
    all_below s.n (λ p. all s.k (closed s.k (order_in s.known.now p) (order_in s.asked.now p))) c.all.ensures.ran refl (λ x b q k. search (rules, tests))
