-- What is asked under a model's number.
-- Assumes nothing.
use Prim.Native.Nat.{ℕ, zero, suc, ◌<◌}
use native.Mathlib.Nat.{not-suc-le-zero, le_of_suc-le-suc}
use mathlib.Core.Path.{◌≡◌, refl, ap}
use Rattle.model.specs.Rules.{Model}
use Rattle.model.specs.Answers.{under_model}
use Rattle.rules.specs.declared.Model.{Model as Given}
use Rattle.rules.specs.declared.Model.TheVariants.{Ppcw, Ppcs}
use Rattle.rules.specs.Models.{model_of, model_number}

module _ {A : Type 0} (f : Model → A) (else : A) where
  pub under_given : {number : ℕ} (model : Given) → number ≡ model_number model → under_model number f else ≡ f (model_of model)
  under_given Ppcw e = ap (λ (i : ℕ). under_model i f else) e
  under_given Ppcs e = ap (λ (i : ℕ). under_model i f else) e

  pub under_none : (number : ℕ) → 1 < number → under_model number f else ≡ else
  under_none zero h = absurd (not-suc-le-zero h)
  under_none (suc zero) h = absurd (not-suc-le-zero (le_of_suc-le-suc h))
  under_none (suc (suc x)) h = refl
