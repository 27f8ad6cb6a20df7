-- `values::rule18` meets its contract. Assumes nothing.
use borrow.Author.Rules.{rules}
use borrow.Author.Tests.{tests}
use mathlib.Core.Path.{refl}
use Rattle.finite.specs.Tests.{all}
use Rattle.bits.specs.Bit.{bit}
use Rattle.rows.specs.Sets.{order_in, set_in, applicable_in}
use Rattle.rows.specs.May.{may18}
use Rattle.values.specs.Parts.{carried_on, thread_in}
use Rattle.rows.proofs.Ranges.{all_below}
use Rattle.values.proofs.rule18.Goals as goal

pub returns : goal.returns
unfolding may18
returns c =
    let a = c.args in
    all_below a.n (λ p. all a.k (carried_on a.k a.n (set_in a.own.now p) (bit a.barriers) (applicable_in a.syncs a.light.now) (bit a.stores) (set_in a.read.now) (thread_in a.threads.now) p (order_in a.known.now) (order_in a.asked.now))) c.all.ensures.ran refl (λ x b q k. search (rules, tests))
