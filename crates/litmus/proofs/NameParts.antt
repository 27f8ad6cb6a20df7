-- Where names lie: the parts beside judging and renumbering name the bytes that the model gives.
-- Assumes nothing.
use Prim.Native.Nat.{ℕ, zero, suc, ◌<◌}
use mathlib.Core.Path.{◌≡◌, refl, sym, ap, ◌∙◌}
use mathlib.Core.Bool.{true, false}
use mathlib.Core.List.{List}
use borrow.Author.Tests.{eqb-true, eqb-false}
use lib.Dec.{eqb}
use lib.ListN.{replicate}
use Rattle.model.specs.Record.{read}
use Rattle.model.specs.Answers.{name, name_under, judged_name, renumbered_name, renumber_record}
use Rattle.rules.specs.declared.Model.{Model}
use Rattle.rules.specs.Models.{model_number}
use Rattle.litmus.specs.declared.Part.{Part}
use Rattle.litmus.specs.Shown.{part_shown, no_part, part_under, bytes_of, judged_part, renumbered_part}
use Rattle.litmus.proofs.Models.{no_model, either_model}

under-number : (x : ℕ) (s : List ℕ) → bytes_of s (part_under x s) ≡ name_under x s
unfolding name
under-number zero s = refl
under-number (suc x) s = refl

-- beside judging
module _ (model : ℕ) (s : List ℕ) where
  pub judged-bytes : bytes_of s (judged_part model s) ≡ judged_name model s
  unfolding judged_part judged_name
  judged-bytes = by model
    where
      by : (model : ℕ) → bytes_of s (judged_part model s) ≡ judged_name model s
      by zero = under-number 0 s
      by (suc zero) = under-number 0 s
      by (suc (suc x)) = refl

  module _ {p : Part} where
    pub judged-none : 1 < model → p ≡ no_part → p ≡ judged_part model s
    unfolding judged_part
    judged-none h e = e ∙ sym (no_model _ _ model h)

    pub judged-part : (m : Model) → model ≡ model_number m → p ≡ part_shown (read s) → p ≡ judged_part model s
    unfolding judged_part
    judged-part m h e = e ∙ sym (either_model _ _ model _ m h (λ w. refl))

    pub judged_both : p ≡ judged_part model s → (p ≡ judged_part model s) × (bytes_of s p ≡ judged_name model s)
    judged_both e = (e, ap (bytes_of s) e ∙ judged-bytes)

-- beside renumbering
module _ (q r : ℕ) (s : List ℕ) (size at : ℕ) where
  abbrev number : ℕ
  number = (renumber_record q r s (replicate size 0) at).answer.number

  pub renumbered-bytes : bytes_of s (renumbered_part q r s size at) ≡ renumbered_name q r s size at
  unfolding renumbered_part renumbered_name
  renumbered-bytes = under-number number s

  module _ {p : Part} where
    pub renumbered-part : eqb number 0 ≡ true → p ≡ part_shown (read s) → p ≡ renumbered_part q r s size at
    unfolding renumbered_part
    renumbered-part t e = e ∙ sym (ap (λ (x : ℕ). part_under x s) (eqb-true number 0 t))

    pub renumbered-none : eqb number 0 ≡ false → p ≡ no_part → p ≡ renumbered_part q r s size at
    unfolding renumbered_part
    renumbered-none t e = e ∙ sym (by number (eqb-false number 0 t))
      where
        by : (x : ℕ) → (x ≡ 0 → ⊥) → part_under x s ≡ no_part
        by zero z = absurd (z refl)
        by (suc x) z = refl

    pub renumbered_both : p ≡ renumbered_part q r s size at → (p ≡ renumbered_part q r s size at) × (bytes_of s p ≡ renumbered_name q r s size at)
    renumbered_both e = (e, ap (bytes_of s) e ∙ renumbered-bytes)
