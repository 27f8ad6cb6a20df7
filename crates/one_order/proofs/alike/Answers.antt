-- `one_order::alike` meets its contract. Assumes nothing.
use mathlib.Core.Path.{refl}
use borrow.Author.Rules.{rules}
use borrow.Author.Tests.{tests}
use Rattle.rows.proofs.Ranges.{all_from_one}
use Rattle.one_order.specs.Alike.{as_first}
use Rattle.one_order.proofs.AlikeOrders.{first_alike}
use Rattle.one_order.proofs.alike.Goals as goal

pub returns : goal.returns
returns c =
    let s = c.args in
    all_from_one s.n (as_first s.k s.rows.now) c.all.ensures.ran refl (λ x b q k. search (rules, tests)) (first_alike s.k s.rows.now)
