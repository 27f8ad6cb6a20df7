-- How one order is turned: for each binary digit, the rows whose numbers differ in it alone exchange bits.
-- Assumes nothing.
use Rattle.std.specs.Prelude.{ℕ, ◌+◌, ◌-◌, ◌*◌, ◌/◌, ◌%◌, ◌^◌, ◌≤◌, ◌<◌, ◌≡◌, Bool, not, List, length, get_or}
use Rattle.finite.specs.Tests.{tick}
use Rattle.bits.specs.Bit.{bit}
use Rattle.model.specs.Limits.{most_events}

-- the binary digits of an event's number
abbrev pub digits : ℕ
digits = 6

-- the number t with b put in as binary digit s
unfoldable pub insert : ℕ → Bool → ℕ → ℕ
insert s b t = (t / 2 ^ s * 2 + tick b) * 2 ^ s + t % 2 ^ s

-- the number i with binary digit s taken out
unfoldable pub omit : ℕ → ℕ → ℕ
omit s i = i / 2 ^ (s + 1) * 2 ^ s + i % 2 ^ s

-- r holds the events whose digit s is 0
pub record Mask (s r : ℕ) : Type 0 where
  pub clear : (e : ℕ) → e < most_events → bit r e ≡ not (bit e s)

-- the rows whose numbers are alike but for digit s have exchanged their bits, where the rest of the number is one of those from a to b: digit s of the row
-- and of the bit change places
pub record Swapped (s a b : ℕ) (old new : List ℕ) : Type 0 where
  pub long : length new ≡ length old
  pub swap : (t : ℕ) → a ≤ t → t < b → (c d : Bool) (u : ℕ) → u < most_events / 2
      → bit (get_or new (insert s c t) 0) (insert s d u) ≡ bit (get_or old (insert s d t) 0) (insert s c u)
  pub rest : (i : ℕ) → (a ≤ omit s i → omit s i < b → ⊥) → get_or new i 0 ≡ get_or old i 0

-- so have all rows whose numbers have no more than so many digits, if digit s is one of these
pub record Stepped (s count : ℕ) (old new : List ℕ) : Type 0 where
  pub long : length new ≡ length old
  pub swapped : s < count → Swapped s 0 (2 ^ (count - 1)) old new
  pub same : count ≤ s → new ≡ old

-- the columns of one order's rows, of k events
pub record Turned (k : ℕ) (rows columns : List ℕ) : Type 0 where
  pub long : length columns ≡ length rows
  pub turned : (a : ℕ) → a < k → (b : ℕ) → b < k → bit (get_or columns b 0) a ≡ bit (get_or rows a 0) b
