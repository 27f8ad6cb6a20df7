-- An order's events from its end on.
-- Assumes nothing.
use Rattle.std.specs.Prelude.{ℕ, ◌≤◌, ◌<◌, ◌≡◌, Bool, true, List, get_or}
use Rattle.bits.specs.Bit.{bit}
use Rattle.model.specs.Limits.{most_events}
use Rattle.orders.specs.Parts.{closed}

-- at each size that a row may have stands an event
pub record Named (sizes : List ℕ) : Type 0 where
  pub event : (i : ℕ) → i ≤ most_events → get_or sizes i 0 < most_events

-- of one thread's order before, with k events: what follows an event of the set is in the set, and its row obeys rule 11
pub record FinalPart (k : ℕ) (before : ℕ → ℕ → Bool) (set : ℕ) : Type 0 where
  pub onward : (a b : ℕ) → a < k → b < k → bit set a ≡ true → before a b ≡ true → bit set b ≡ true
  pub obeys : (a : ℕ) → a < k → bit set a ≡ true → closed k before before a ≡ true
