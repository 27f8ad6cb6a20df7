-- The table of masks.
-- Assumes nothing.
use Prim.Native.Nat.{ℕ, ◌+◌, ◌-◌, ◌/◌, ◌^◌, ◌<◌}
use mathlib.Core.Path.{◌≡◌, refl}
use mathlib.Core.Bool.{Bool, true, false, not}
use mathlib.Core.List.{List}
use lib.Dec.{T}
use lib.ListN.{get_or}
use Rattle.finite.specs.Lists.{table}
use Rattle.finite.specs.Tests.{all}
use Rattle.finite.proofs.Tests.{all2_T}
use Rattle.bits.specs.Bit.{bit, width}
use Rattle.model.specs.Limits.{most_events}
use Rattle.columns.specs.Swaps.{digits, Mask}

-- 2 ^ s ones and as many zeros, over and over
unfoldable pub masks : List ℕ
masks = table 0 digits (λ s. (2 ^ width - 1) / (2 ^ 2 ^ s + 1))

agree : Bool → Bool → Bool
agree true b = b
agree false b = not b

agreed : (a b : Bool) → T (agree a b) → a ≡ b
unfolding agree
agreed true true t = refl
agreed true false t = absurd t
agreed false true t = absurd t
agreed false false t = refl

pub masks_right : (s : ℕ) → s < digits → Mask s (get_or masks s 0)
unfolding masks table all bit agree
masks_right s h = record {
  clear = λ e l. agreed (bit (get_or masks s 0) e) (not (bit e s)) (all2_T digits most_events (λ s e. agree (bit (get_or masks s 0) e) (not (bit e s))) tt s e h l);
}
