-- `by_columns::rule15` meets its contract. Assumes nothing.
use borrow.Author.Rules.{rules}
use borrow.Author.Tests.{tests}
use mathlib.Core.Path.{refl}
use Rattle.finite.specs.Tests.{all}
use Rattle.bits.specs.Bit.{bit}
use Rattle.rows.specs.Sets.{order_in, set_in, store_in}
use Rattle.rows.specs.May.{may15}
use Rattle.values.specs.Parts.{supplied}
use Rattle.rows.proofs.Ranges.{all_below}
use Rattle.by_columns.proofs.rule15.Goals as goal

pub returns : goal.returns
unfolding may15
returns c =
    let a = c.args in
    all_below a.n (λ p. all a.k (supplied a.k (set_in a.judged.now p) (bit a.fresh) (store_in a.stores a.partners.now) (order_in a.rows.now p))) c.all.ensures.ran refl (λ x b q k. search (rules, tests))
