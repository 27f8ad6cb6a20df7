-- An event by its numbers: bare or not.
-- Assumes nothing.
use Prim.Native.Nat.{ℕ}
use mathlib.Core.Path.{◌≡◌, refl}
use mathlib.Core.Bool.{Bool, true, false, cond}
use Rattle.model.specs.Case.{Event, bare}
use Rattle.case.specs.Held.{event_of}

-- what holds without address and value where the kind is bare, and with them where it is not, holds of the event
pub event_by : (P : Event → Type 0) (k t a v : ℕ) → (bare k ≡ true → P (record { kind = k; thread = t; address = 0; value = 0 }))
    → (bare k ≡ false → P (record { kind = k; thread = t; address = a; value = v })) → P (event_of k t a v)
unfolding event_of
event_by P k t a v = by (bare k)
  where
    by : (b : Bool) → (b ≡ true → P (record { kind = k; thread = t; address = 0; value = 0 })) → (b ≡ false → P (record { kind = k; thread = t; address = a; value = v }))
        → P (cond b (record { kind = k; thread = t; address = 0; value = 0 }) (record { kind = k; thread = t; address = a; value = v }))
    by true f g = f refl
    by false f g = g refl
