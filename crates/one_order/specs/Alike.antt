-- When all threads have one order.
-- Assumes nothing.
use Rattle.std.specs.Prelude.{ℕ, Bool, List, eqb}
use Rattle.finite.specs.Tests.{all}
use Rattle.rows.specs.Sets.{row_in}

-- p's rows of k events are the first thread's
abbrev pub as_first : (k : ℕ) (rows : List ℕ) → ℕ → Bool
as_first k rows p = all k λ a. eqb (row_in rows p a) (row_in rows 0 a)

-- of n threads, every one's rows are the first thread's
abbrev pub alike_in : (n k : ℕ) (rows : List ℕ) → Bool
alike_in n k rows = all n (as_first k rows)
