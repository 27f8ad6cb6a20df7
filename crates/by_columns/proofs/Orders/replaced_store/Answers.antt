-- `by_columns::Orders::replaced_store` meets its contract. Assumes nothing.
use mathlib.Core.Path.{refl, sym, ap, ◌∙◌}
use mathlib.Core.Bool.{not, ◌&&◌}
use lib.Dec.{eqb}
use Rattle.finite.proofs.Tests.{imp-first, imp-second}
use Rattle.rows.proofs.SetLaws.{set_as, share, as_set, some-set, set_same}
use Rattle.by_columns.proofs.Orders.replaced_store.Goals as goal

pub returns-then-any : goal.returns-then-any
returns-then-any c =
    c.if-any.true ∙ imp-first _ _ _ c.requires.s_value
    (sym (some-set c.args.self.now.k (set_same c.without-later.ensures (λ e. ap (λ t. t && not (eqb e c.args.s)) ((set_as c.both.ensures (share (as_set refl) (as_set c.row.ensures))).has e)))) ∙ sym c.any.ensures ∙ c.if-any.true)

pub returns-else-any : goal.returns-else-any
returns-else-any c =
    imp-second _ _ _ c.requires.s_value
    (sym (some-set c.args.self.now.k (set_same c.without-later.ensures (λ e. ap (λ t. t && not (eqb e c.args.s)) ((set_as c.both.ensures (share (as_set refl) (as_set c.row.ensures))).has e)))) ∙ sym c.any.ensures ∙ c.if-any.false)
