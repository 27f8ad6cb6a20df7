-- A thread's order, as it lies in a struct's array.
-- Assumes nothing.
use Rattle.std.specs.Prelude.{ℕ, ◌+◌, ◌*◌, ◌%◌, ◌^◌, List, get_or}
use Rattle.finite.specs.Lists.{table}
use Rattle.model.specs.Limits.{most_events}

-- the rows of thread p, each without what lies past the last event
abbrev pub order : (k : ℕ) (rows : List ℕ) (p : ℕ) → List ℕ
order k rows p = table 0 k (λ a. get_or rows (p * most_events + a) 0 % 2 ^ k)
