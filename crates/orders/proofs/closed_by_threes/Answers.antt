-- `orders::closed_by_threes` meets its contract. Assumes nothing.
use mathlib.Core.Path.{refl, sym, ◌∙◌}
use borrow.Author.Rules.{rules}
use borrow.Author.Tests.{tests}
use Rattle.finite.specs.Tests.{all}
use Rattle.rows.specs.Sets.{order_in}
use Rattle.rows.proofs.Ranges.{all_below}
use Rattle.orders.specs.Parts.{transitive_at}
use Rattle.orders.proofs.Laws.{closed_threes}
use Rattle.orders.proofs.closed_by_threes.Goals as goal

pub returns-then-not-precedes : goal.returns-then-not-precedes
returns-then-not-precedes c =
    let s = c.args in
    all_below s.k (λ b. all s.k (transitive_at (order_in s.known.now s.p) (order_in s.asked.now s.p) s.a b)) c.all.ensures.ran refl (λ x b q k. search (rules, tests))
    ∙ closed_threes s.k (order_in s.known.now s.p) (order_in s.asked.now s.p) s.a (sym c.precedes.ensures ∙ c.if-not-precedes.true)
