-- The bits of a row below a bound. Assumes nothing.
use Prim.Native.Nat.{ℕ, ◌%◌, ◌^◌, ◌<◌}
use native.Mathlib.Nat.{mod-lt}
use mathlib.Core.Path.{◌≡◌, sym, ◌∙◌}
use lib.Pow.{pow_pos}
use Rattle.bits.specs.Bit.{bit}
use Rattle.bits.proofs.Bits.{bit_ext, bit_left}

-- rows with the same bits below k leave the same by 2 ^ k
pub left_same : (k r s : ℕ) → ((b : ℕ) → b < k → bit r b ≡ bit s b) → r % 2 ^ k ≡ s % 2 ^ k
left_same k r s f =
    bit_ext k (r % 2 ^ k) (s % 2 ^ k) (mod-lt r (pow_pos k)) (mod-lt s (pow_pos k))
    (λ b h. bit_left r k b h ∙ f b h ∙ sym (bit_left s k b h))
