-- `orders::rule13` meets its contract. Assumes nothing.
use mathlib.Core.Path.{refl, ◌∙◌}
use borrow.Author.Rules.{rules}
use borrow.Author.Tests.{tests}
use Rattle.finite.specs.Tests.{all}
use Rattle.bits.specs.Bit.{bit}
use Rattle.rows.specs.Sets.{order_in, set_in}
use Rattle.rows.proofs.Ranges.{all_below}
use Rattle.orders.specs.Parts.{listed}
use Rattle.orders.proofs.Laws.{by_listing}
use Rattle.orders.proofs.rule13.Goals as goal

pub returns : goal.returns
returns c =
    let s = c.args in
    all_below s.n (λ p. all s.k (listed s.k (set_in s.own.now p) (bit s.barriers) (set_in s.partners.now) (set_in s.dependents.now) (order_in s.asked.now p))) c.all.ensures.ran refl (λ x b q k. search (rules, tests)) ∙ by_listing _ _ _ _ _ _ _
