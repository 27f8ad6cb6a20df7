-- `litmus::renumbered_name` meets its contract. Assumes nothing.
use Prim.Native.Nat.{ℕ, zero, suc}
use mathlib.Core.Path.{◌≡◌, refl, sym, ap, ◌∙◌}
use mathlib.Core.Bool.{true, false}
use mathlib.Core.List.{List, []}
use borrow.Author.Tests.{eqb-true, eqb-false}
use lib.Dec.{eqb}
use lib.ListN.{replicate}
use Rattle.model.specs.Answers.{name, name_under, renumber_record, renumbered_name}
use Rattle.litmus.proofs.renumbered_name.Goals as goal

module _ (q r : ℕ) (s : List ℕ) (size at : ℕ) where
  abbrev number : ℕ
  number = (renumber_record q r s (replicate size 0) at).answer.number

  done-name : eqb number 0 ≡ true → renumbered_name q r s size at ≡ name s
  unfolding renumbered_name
  done-name e = ap (λ (y : ℕ). name_under y s) (eqb-true number 0 e)

  no_name : eqb number 0 ≡ false → renumbered_name q r s size at ≡ []
  unfolding renumbered_name
  no_name e = by number (eqb-false number 0 e)
    where
      by : (x : ℕ) → (x ≡ 0 → ⊥) → name_under x s ≡ []
      by zero z = absurd (z refl)
      by (suc x) z = refl

pub returns-then-renumbers : goal.returns-then-renumbers
returns-then-renumbers c =
    c.name.ensures ∙ sym (done-name _ _ _ _ _ (sym c.renumbers.ensures ∙ c.if-renumbers.true))

pub returns-else-renumbers : goal.returns-else-renumbers
returns-else-renumbers c =
    sym (no_name _ _ _ _ _ (sym c.renumbers.ensures ∙ c.if-renumbers.false))
