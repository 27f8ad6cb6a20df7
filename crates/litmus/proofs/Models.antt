-- By the model's number.
-- Assumes nothing.
use Prim.Native.Nat.{ℕ, zero, suc, ◌<◌}
use native.Mathlib.Omega.{arith}
use mathlib.Core.Path.{◌≡◌, refl, ◌∙◌}
use Rattle.model.specs.Rules.{Model}
use Rattle.model.specs.Answers.{under_model}
use Rattle.rules.specs.declared.Model.{Model as Given}
use Rattle.rules.specs.declared.Model.TheVariants.{Ppcw, Ppcs}
use Rattle.rules.specs.Models.{model_of, model_number}

module _ {A : Type 0} (f : Model → A) (else : A) where
  pub no_model : (model : ℕ) → 1 < model → under_model model f else ≡ else
  no_model zero h = absurd (omega arith)
  no_model (suc zero) h = absurd (omega arith)
  no_model (suc (suc x)) h = refl

  pub some_model : (model : ℕ) (m : Given) → model ≡ model_number m → under_model model f else ≡ f (model_of m)
  some_model model Ppcw e = rw e
  some_model model Ppcs e = rw e

  -- what is the same under both
  pub either_model : (model : ℕ) (a : A) (m : Given) → model ≡ model_number m → ((w : Model) → f w ≡ a) → under_model model f else ≡ a
  either_model model a m e h = some_model model m e ∙ h (model_of m)
