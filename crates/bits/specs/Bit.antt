-- A number read as a set of events: event i is in the set where bit i is set.
-- Assumes nothing.
use Rattle.std.specs.Prelude.{Bool, ℕ, ◌/◌, ◌%◌, ◌^◌, eqb}

-- the events that a number of the code can hold are those below this
abbrev pub width : ℕ
width = 64

-- bit i of a number
unfoldable pub bit : ℕ → ℕ → Bool
bit row i = eqb (row / 2 ^ i % 2) 1
