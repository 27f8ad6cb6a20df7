-- Where there is room for two records of the last edition, there is room for every record.
-- Assumes nothing.
use Rattle.std.proofs.Common.{◌≡◌, ℕ, ◌*◌, ◌≤◌, Bool, true, false, replicate, refl, ap, arith, eqb-true}
use Rattle.model.specs.Limits.{most_edition, second}
use Rattle.model.specs.Bound.{most_bytes}
use Rattle.laws.proofs.Bound.{most_is, most_first}

room-enough : {room : ℕ} → room ≡ 2 * most_bytes most_edition → (edition : ℕ) → most_bytes edition ≤ room
room-enough h edition = rw h (go (second edition) refl)
  where
    go : (x : Bool) → second edition ≡ x → most_bytes edition ≤ 2 * most_bytes most_edition
    go true e = omega (arith, ap most_bytes (eqb-true edition most_edition e))
    go false e = omega (arith, most_first edition e, most_is.0, most_is.1)

pub two_records :
    {room : ℕ} → room ≡ 2 * most_bytes most_edition
    → (replicate {A = ℕ} room 0 ≡ replicate (2 * most_bytes most_edition) 0) × ((edition : ℕ) → most_bytes edition ≤ room)
two_records h = (ap (λ i. replicate i 0) h, room-enough h)
