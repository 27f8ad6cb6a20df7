-- The final memory by a struct's arrays.
-- Assumes nothing.
use Rattle.std.specs.Prelude.{ℕ, ◌+◌, ◌-◌, ◌*◌, Bool, cond, ◌&&◌, List, eqb, ltb, get_or}
use Rattle.finite.specs.Tests.{count}
use Rattle.bits.specs.Bit.{bit}
use Rattle.model.specs.Limits.{most_events}
use Rattle.model.specs.Case.{bare}

-- e is one of the stores to address x
abbrev pub stored_in : (stores : ℕ) (addresses : List ℕ) → ℕ → ℕ → Bool
stored_in stores addresses x e = bit stores e && eqb (get_or addresses e 0) x

-- a bare kind has no value
abbrev pub value_in : (kinds values : List ℕ) → ℕ → ℕ
value_in kinds values e = cond (bare (get_or kinds e 0)) 0 (get_or values e 0)

-- the value of the last of i stores in the write order of address x, or else the initial value
abbrev pub last_in : (kinds values writes initial : List ℕ) → ℕ → ℕ → ℕ
last_in kinds values writes initial x i =
    cond (eqb i 0) (get_or initial x 0) (value_in kinds values (get_or writes (x * most_events + (i - 1)) 0))

-- of m addresses and k events
abbrev pub final_in : (m k stores : ℕ) (kinds addresses values writes initial : List ℕ) → ℕ → ℕ
final_in m k stores kinds addresses values writes initial x =
    cond (ltb x m) (last_in kinds values writes initial x (count k (stored_in stores addresses x))) 0
