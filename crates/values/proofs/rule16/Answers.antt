-- `values::rule16` meets its contract. Assumes nothing.
use borrow.Author.Rules.{rules}
use borrow.Author.Tests.{tests}
use mathlib.Core.Path.{refl}
use Rattle.finite.specs.Tests.{all}
use Rattle.rows.specs.Sets.{order_in, store_in, set_in}
use Rattle.rows.specs.May.{may16}
use Rattle.values.specs.Parts.{overwritten, equal_in}
use Rattle.rows.proofs.Ranges.{all_below}
use Rattle.values.proofs.rule16.Goals as goal

pub returns : goal.returns
unfolding may16
returns c =
    let a = c.args in
    all_below a.n (λ p. all a.k (overwritten a.k (set_in a.judged.now p) (set_in a.seen.now p) (store_in a.stores a.partners.now) (equal_in a.values.now) (order_in a.asked.now p))) c.all.ensures.ran refl (λ x b q k. search (rules, tests))
