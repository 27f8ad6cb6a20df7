-- Traces that keep the limits: those that bytes give.
-- Assumes nothing.
use Rattle.std.specs.Prelude.{ℕ, ◌≤◌, ◌<◌, ◌≡◌, List, [], ◌∷◌, ◌++◌, length}
use Rattle.finite.specs.Lists.{All}
use Rattle.model.specs.Limits.{most_threads, most_addresses, most_value}
use Rattle.storage_model.specs.Limits.{most_steps, most_writes, most_barriers}
use Rattle.storage_model.specs.Trace.{Trace, Step, accept_write, accept_barrier, propagate_write, propagate_barrier, commit, respond, acknowledge, lwsync, writes_in, barriers_in}

-- a step of a trace with n threads and m addresses, behind w writes and b barriers
abbrev pub StepFits : (n m w b : ℕ) → Step → Type 0
StepFits n m w b (accept_write t a v) = (w < most_writes) × (t < n) × (a < m) × (v ≤ most_value)
StepFits n m w b (accept_barrier t c) = (b < most_barriers) × (t < n) × (c ≤ lwsync)
StepFits n m w b (propagate_write x t) = (x < w) × (t < n)
StepFits n m w b (propagate_barrier x t) = (x < b) × (t < n)
StepFits n m w b (commit x y) = (x < w) × (y < w)
StepFits n m w b (respond t a v) = (t < n) × (a < m) × (v ≤ most_value)
StepFits n m w b (acknowledge x) = x < b

-- each step names writes and barriers that the steps before it accept
abbrev pub StepsFit : (n m : ℕ) (before : List Step) → List Step → Type 0
StepsFit n m before [] = Unit {0}
StepsFit n m before (x ∷ xs) = StepFits n m (writes_in before) (barriers_in before) x × StepsFit n m (before ++ (x ∷ [])) xs

pub record Fits (t : Trace) : Type 0 where
  pub n_least : 1 ≤ t.n
  pub n_most : t.n ≤ most_threads
  pub m_least : 1 ≤ t.m
  pub m_most : t.m ≤ most_addresses
  pub m : t.m ≡ length t.initials
  pub initials : All (λ v. v ≤ most_value) t.initials
  pub steps_most : length t.steps ≤ most_steps
  pub steps : StepsFit t.n t.m [] t.steps
