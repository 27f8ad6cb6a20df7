-- The columns of orders that are held as rows.
-- Assumes nothing.
use Rattle.std.specs.Prelude.{ℕ, ◌<◌, ◌≡◌, List}
use Rattle.rows.specs.Sets.{order_in}

-- of n threads and k events: column b of thread p holds the events that come before b in p's order. What it holds from event k on is left open, since no
-- rule asks for it
pub record Columns (n k : ℕ) (rows columns : List ℕ) : Type 0 where
  pub turned : (p : ℕ) → p < n → (a : ℕ) → a < k → (b : ℕ) → b < k → order_in columns p b a ≡ order_in rows p a b
