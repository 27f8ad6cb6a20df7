-- `orders::closed_pair_by_threes` meets its contract. Assumes nothing.
use mathlib.Core.Path.{refl}
use borrow.Author.Rules.{rules}
use borrow.Author.Tests.{tests}
use Rattle.rows.specs.Sets.{order_in}
use Rattle.rows.proofs.Ranges.{all_below}
use Rattle.orders.specs.Parts.{transitive_at}
use Rattle.orders.proofs.closed_pair_by_threes.Goals as goal

pub returns : goal.returns
returns c =
    let s = c.args in
    all_below s.k (transitive_at (order_in s.known.now s.p) (order_in s.asked.now s.p) s.a s.b) c.all.ensures.ran refl (λ x b q k. search (rules, tests))
