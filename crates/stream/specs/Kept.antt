-- The bytes of an input that are kept in a buffer.
-- Assumes nothing.
use Rattle.std.specs.Prelude.{ℕ, ◌+◌, ◌-◌, ◌≤◌, ◌≡◌, true, false, List, ◌++◌, eqb, length, take, drop, Result, IfOk}
use Rattle.std.specs.declared.io.Error.{Error}
use Rattle.stream.specs.declared.Got.{Got}

-- the bytes from at up to have lie in a buffer of so many
pub record Kept (at have room : ℕ) : Type 0 where
  pub from : at ≤ have
  pub inside : have ≤ room

-- these bytes
abbrev pub kept : List ℕ → (at have : ℕ) → List ℕ
kept b at have = take (have - at) (drop at b)

-- the buffer with them at its front; the bytes behind stay
abbrev pub moved_up : List ℕ → (at have : ℕ) → List ℕ
moved_up b at have = kept b at have ++ drop (have - at) b

-- after a read that gave so many bytes behind those
abbrev pub got_by : (have count : ℕ) → Got
got_by have count = record { have = have + count; ended = eqb count 0 }

-- after a read that a signal interrupted
abbrev pub interrupted : (have : ℕ) → Got
interrupted have = record { have = have; ended = false }

-- where a read behind so many bytes of a buffer did not fail, that buffer holds bytes up to g's. An input has ended only where no byte came
pub record Behind (held room : ℕ) (g : Got) : Type 0 where
  pub more : held ≤ g.have
  pub inside : g.have ≤ room
  pub none : g.ended ≡ true → g.have ≡ held

-- after a read the buffer b' has the size of b, and those bytes that were kept stand at its front, also where the read failed. What was
-- read stands behind them; of that nothing is said
pub record ReadOn (b : List ℕ) (at have : ℕ) (b' : List ℕ) (r : Result Got Error) : Type 0 where
  pub room : length b' ≡ length b
  pub front : take (have - at) b' ≡ kept b at have
  pub got : IfOk r (Behind (have - at) (length b))
