-- `values::explained_store` meets its contract. Assumes nothing.
use mathlib.Core.Path.{refl, sym, ◌∙◌, ap}
use Rattle.bits.specs.Bit.{bit}
use Rattle.rows.specs.Sets.{order_in}
use Rattle.values.specs.Parts.{equal_in}
use mathlib.Core.Bool.{◌&&◌, not, Bool, true≢false}
use Rattle.rows.proofs.SetLaws.{set_as, share, as_set, some-set, set_same}
use Rattle.values.proofs.Laws.{same-value, load-first, else_between}
use Rattle.finite.specs.Tests.{some}
use lib.Dec.{eqb}
use borrow.Author.Tests.{eq-eqb, ne_eqb}
use Rattle.values.proofs.explained_store.Goals.{then-values-l, else-values-l}
use Rattle.values.proofs.explained_store.Goals as goal

pub returns-then-precedes : goal.returns-then-precedes
returns-then-precedes c =
    let a = c.args in
    let those : Bool = bit a.those a.s in
    let between : Bool = some a.k (λ x. bit a.between x && order_in a.asked.now a.p a.s x && not (eqb x a.s)) in
    let equal : Bool = equal_in a.values.now a.l a.s in
    let before : Bool = order_in a.asked.now a.p a.l a.s in
    c.if-precedes.true
    ∙ elim c.if-values-l.branch [
      | then-values-l w ↦ same-value those between equal before c.requires.s_value (eq-eqb _ _ w.if-values-l.true)
      | else-values-l w ↦ load-first those between equal before c.requires.s_value (sym w.precedes.ensures ∙ sym w.value-is ∙ c.if-precedes.true)
    ]

pub returns-else-precedes : goal.returns-else-precedes
returns-else-precedes c =
    let a = c.args in
    let those : Bool = bit a.those a.s in
    let between : Bool = some a.k (λ x. bit a.between x && order_in a.asked.now a.p a.s x && not (eqb x a.s)) in
    let equal : Bool = equal_in a.values.now a.l a.s in
    let before : Bool = order_in a.asked.now a.p a.l a.s in
    c.any.ensures
    ∙ some-set a.k (set_same c.without.ensures (λ e. ap (λ t. t && not (eqb e a.s)) ((set_as c.both-later.ensures (share (as_set refl) (as_set c.row.ensures))).has e)))
    ∙ elim c.if-values-l.branch [
      | then-values-l w ↦ absurd (true≢false (sym (w.value-is ∙ eq-eqb _ _ w.if-values-l.true) ∙ c.if-precedes.false))
      | else-values-l w ↦ else_between those between equal before c.requires.s_value (ne_eqb _ _ w.if-values-l.false) (sym w.precedes.ensures ∙ sym w.value-is ∙ c.if-precedes.false)
    ]
