-- `by_columns::rule17` meets its contract. Assumes nothing.
use borrow.Author.Rules.{rules}
use borrow.Author.Tests.{tests}
use mathlib.Core.Path.{refl}
use Rattle.finite.specs.Tests.{all}
use Rattle.bits.specs.Bit.{bit}
use Rattle.rows.specs.Sets.{order_in, set_in}
use Rattle.rows.specs.May.{may17}
use Rattle.values.specs.Parts.{cumulative}
use Rattle.by_columns.specs.Parts.{applies_in}
use Rattle.rows.proofs.Ranges.{all_below}
use Rattle.by_columns.proofs.rule17.Goals as goal

pub returns : goal.returns
unfolding may17
returns c =
    let a = c.args in
    all_below a.n (λ p. all a.k (cumulative a.k a.n (set_in a.own.now p) (bit a.barriers) (applies_in a.barriers a.syncs a.stores a.loads) (order_in a.rows.now p) (order_in a.rows.now))) c.all.ensures.ran refl (λ x b q k. search (rules, tests))
