-- `values::supplied_load` meets its contract. Assumes nothing.
use mathlib.Core.Path.{refl, sym, ◌∙◌}
use Rattle.bits.specs.Bit.{bit}
use Rattle.rows.specs.Sets.{order_in, store_in}
use mathlib.Core.Bool.{◌&&◌, Bool}
use Rattle.finite.proofs.Tests.{imp-first, imp-second}
use Rattle.rows.proofs.SetLaws.{set_as, share, as_set, some-set, of_set}
use Rattle.values.proofs.Laws.{some-before}
use Rattle.finite.specs.Tests.{some}
use Prim.Native.Nat.{ℕ}
use Rattle.values.proofs.supplied_load.Goals as goal

pub returns-then-has : goal.returns-then-has
returns-then-has c =
    let a = c.args in
    c.if-has.true
    ∙ imp-first (bit a.judged a.l) (bit a.fresh a.l) (some a.k (λ x. store_in a.stores a.partners.now a.l x && order_in a.asked.now a.p x a.l)) c.requires.l_value (sym c.has.ensures ∙ c.if-has.true)

pub returns-else-has : goal.returns-else-has
returns-else-has c =
    let a = c.args in
    let after : ℕ → Bool = λ x. order_in a.asked.now a.p x a.l in
    let stores : ℕ → Bool = store_in a.stores a.partners.now a.l in
    c.any.ensures
    ∙ some-set a.k (of_set a.k after (set_as c.both-sources.ensures (share (as_set refl) (as_set refl))) c.before_of.ensures)
    ∙ some-before a.k stores after
    ∙ imp-second (bit a.judged a.l) (bit a.fresh a.l) (some a.k (λ x. stores x && after x)) c.requires.l_value (sym c.has.ensures ∙ c.if-has.false)
