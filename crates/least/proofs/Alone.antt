-- What a comparison tells of two lists alone.
-- Assumes nothing.
use Prim.Native.Nat.{ℕ}
use mathlib.Core.Path.{◌≡◌, refl, sym, ap₂, ◌∙◌, subst}
use mathlib.Core.Bool.{Bool, true, false, false≢true}
use mathlib.Core.List.{List, [], append-nil}
use Rattle.std.proofs.Common.{Ordering, Less, Equal, Greater}
use Rattle.std.specs.Ordering.{is_gt}
use Rattle.classes.specs.Order.{at_most}
use Rattle.classes.proofs.Order.{at_most_same}
use Rattle.compare.specs.Decided.{Decided}

module _ (a b : List ℕ) where
  pub not-greater : (d : Ordering) → Decided a b d → (t : Bool) → t ≡ is_gt d → t ≡ false → at_most a b ≡ true
  not-greater Less D t e h = sym (ap₂ at_most (append-nil a) (append-nil b)) ∙ D.less refl [] []
  not-greater Equal D t e h = subst (λ (x : List ℕ). at_most a x ≡ true) (D.equal refl) (at_most_same a)
  not-greater Greater D t e h = absurd (false≢true (sym h ∙ e))

  pub is_greater : (d : Ordering) → Decided a b d → (t : Bool) → t ≡ is_gt d → t ≡ true → at_most a b ≡ false
  is_greater Less D t e h = absurd (false≢true (sym e ∙ h))
  is_greater Equal D t e h = absurd (false≢true (sym e ∙ h))
  is_greater Greater D t e h = sym (ap₂ at_most (append-nil a) (append-nil b)) ∙ D.greater refl [] []
