-- The kinds of steps by number.
-- Assumes nothing.
use Rattle.std.specs.Prelude.{ℕ, ◌≤◌, ◌≡◌, Result, MatchResult}
use Rattle.storage_model.specs.Limits.{most_kind}
use Rattle.trace_reader.specs.declared.Kind.{Kind}
use Rattle.trace_reader.specs.declared.Kind.TheVariants.{AcceptWrite, AcceptBarrier, PropagateWrite, PropagateBarrier, Commit, Respond, Acknowledge}
use Rattle.trace_reader.specs.declared.NoKind.{NoKind}

abbrev pub number_of : Kind → ℕ
number_of AcceptWrite = 1
number_of AcceptBarrier = 2
number_of PropagateWrite = 3
number_of PropagateBarrier = 4
number_of Commit = 5
number_of Respond = 6
number_of Acknowledge = 7

-- the kind with this number, or none: then no kind has it
abbrev pub Numbered : ℕ → Result Kind NoKind → Type 0
Numbered number r = MatchResult r (λ kind. number ≡ number_of kind) (λ _. 1 ≤ number → number ≤ most_kind → ⊥)
