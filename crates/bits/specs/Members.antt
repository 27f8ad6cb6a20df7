-- The events of a set, taken out of it one by one, the least first.
-- Assumes nothing.
use Rattle.std.specs.Prelude.{true, false, not, ◌&&◌, ℕ, ◌<◌, ◌≡◌, eqb, Option, MatchOption}
use Rattle.bits.specs.Bit.{bit}

-- a is the least event of the set, and the rest is the set without it
pub record Taken (set a rest : ℕ) : Type 0 where
  pub member : bit set a ≡ true
  pub least : (e : ℕ) → e < a → bit set e ≡ false
  pub left : (e : ℕ) → bit rest e ≡ (bit set e && not (eqb e a))

-- a set from which the least event is taken, or none if there is none; the set that is left
abbrev pub Takes : ℕ → Option ℕ → ℕ → Type 0
Takes set taken rest = MatchOption taken ((e : ℕ) → bit set e ≡ false) (λ a. Taken set a rest)
