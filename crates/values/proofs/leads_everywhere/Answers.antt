-- `values::leads_everywhere` meets its contract. Assumes nothing.
use borrow.Author.Rules.{rules}
use borrow.Author.Tests.{tests}
use mathlib.Core.Path.{refl}
use Rattle.finite.specs.Tests.{all, ◌⇒◌}
use Rattle.bits.specs.Bit.{bit}
use Rattle.rows.specs.Sets.{order_in}
use Rattle.rows.proofs.Ranges.{all_below}
use Rattle.values.proofs.leads_everywhere.Goals as goal

pub returns : goal.returns
returns c =
    let a = c.args in
    all_below a.n (λ q. all a.k (λ g. bit a.set g ⇒ order_in a.asked.now q a.e g)) c.all.ensures.ran refl (λ x b q k. search (rules, tests))
