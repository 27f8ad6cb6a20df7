-- What a sink of bytes keeps, and the two sinks: one counts the bytes, the other writes them.
-- Assumes nothing.
use Rattle.std.specs.Prelude.{ℕ, ◌+◌, ◌≤◌, ◌<◌, ◌^◌, ◌≡◌, List, [], ◌++◌, length}
use Rattle.number.specs.Number.{splice}
use Rattle.writer.specs.declared.Counter.{Counter}
use Rattle.writer.specs.declared.Writer.{Writer}

-- may s n w: s may take the bytes w, of which it is known that they are at most n; took s n w t: s took them and is t then
pub record SinkLaws {S : Type 0} (may : S → ℕ → List ℕ → Type 0) (took : S → ℕ → List ℕ → S → Type 0) : Type 0 where
  pub none : (s : S) (n : ℕ) → took s n [] s
  pub first : (s : S) (n a : ℕ) (v w : List ℕ) → a ≤ n → may s n (v ++ w) → may s a v
  pub then : (s t : S) (n a b : ℕ) (v w : List ℕ) → a + b ≤ n → may s n (v ++ w) → took s a v t → may t b w
  pub both : (s t u : S) (n a b : ℕ) (v w : List ℕ) → a + b ≤ n → may s n (v ++ w) → took s a v t → took t b w u → took s n (v ++ w) u

-- the count of as many bytes more is a number of 64 bits
abbrev pub may_count : Counter → ℕ → List ℕ → Type 0
may_count s n w = s.count + n < 2 ^ 64

pub record Counted (s : Counter) (n : ℕ) (w : List ℕ) (t : Counter) : Type 0 where
  pub count : t.count ≡ s.count + length w
  pub few : t.count ≤ s.count + n

-- the bytes w fit in the buffer from the writer's place on
abbrev pub may_write : Writer → ℕ → List ℕ → Type 0
may_write s n w = s.at + length w ≤ length s.out.now

-- they were written there, in the same buffer, and the writer's place is behind them
pub record Wrote (s : Writer) (n : ℕ) (w : List ℕ) (t : Writer) : Type 0 where
  pub same : t.out.ghost_name ≡ s.out.ghost_name
  pub at : t.at ≡ s.at + length w
  pub out : t.out.now ≡ splice s.out.now s.at w
