-- The models that a case is judged under, and their numbers.
-- Assumes nothing.
use Rattle.std.specs.Prelude.{ℕ, ◌<◌, ◌≡◌, Result, MatchResult}
use Rattle.model.specs.Rules.{Model, PPCw, PPCs}
use Rattle.rules.specs.declared.Model.{Model as Given}
use Rattle.rules.specs.declared.Model.TheVariants.{Ppcw, Ppcs}
use Rattle.rules.specs.declared.NoModel.{NoModel}

abbrev pub model_of : Given → Model
model_of Ppcw = PPCw
model_of Ppcs = PPCs

-- 01: "Models: 0 is PPCw, 1 is PPCs"
abbrev pub model_number : Given → ℕ
model_number Ppcw = 0
model_number Ppcs = 1

-- the model with this number, or none: then no model has it
abbrev pub Numbered : ℕ → Result Given NoModel → Type 0
Numbered number r = MatchResult r (λ model. number ≡ model_number model) (λ _. 1 < number)
