-- What a run's answer says (02 (ii)): "A trace is accepted exactly when each step is enabled where it stands; otherwise 31 and the first step
-- that isn't".
-- Assumes nothing.
use Rattle.std.specs.Prelude.{ℕ, ◌≡◌, true, false, List, [], ◌∷◌, ◌++◌, length}
use Rattle.storage_model.specs.Trace.{Step}
use Rattle.storage_model.specs.Subsystem.{State, enabled, failing, effect}

-- from s on each step is enabled where it stands, and e is the state after the last
abbrev pub Enabled : (s : State) → List Step → (e : State) → Type 0
Enabled s [] e = s ≡ e
Enabled s (x ∷ xs) e = (enabled s x ≡ true) × Enabled (effect s x) xs e

-- from s on step i is the first that is not enabled, and c is the first of its conditions that fails
pub record Stops (s : State) (xs : List Step) (i c : ℕ) : Type 0 where
  pub before : List Step
  pub step : Step
  pub behind : List Step
  pub parts : xs ≡ before ++ (step ∷ behind)
  pub place : length before ≡ i
  -- where the step stands
  pub state : State
  pub enabled_before : Enabled s before state
  pub not_enabled : enabled state step ≡ false
  pub condition : failing state step ≡ c
