-- What holds of the progress through an input.
-- Assumes nothing.
use Rattle.std.specs.Prelude.{ℕ, ◌≤◌}
use Rattle.judge.specs.declared.input.Progress.{Progress}

-- the bytes to be judged lie in a buffer of so many bytes
abbrev pub Within : Progress → ℕ → Type 0
Within p room = (p.at ≤ p.have) × (p.have ≤ room)
