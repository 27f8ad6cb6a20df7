-- The bits of a number that is shifted.
-- Assumes nothing.
use Prim.Native.Nat.{ℕ, suc, ◌+◌, ◌-◌, ◌*◌, ◌/◌, ◌%◌, ◌^◌, ◌≤◌, ◌<◌}
use native.Mathlib.Nat.{add_comm, mul_assoc}
use native.Mathlib.Omega.{arith}
use mathlib.Core.Path.{◌≡◌, sym, ap, ◌∙◌}
use mathlib.Core.Bool.{false}
use lib.Dec.{eqb}
use lib.Bits.{shifted_even}
use lib.Pow.{pow-add, shr-shr, shl-shr}
use Rattle.bits.specs.Bit.{bit}
use Rattle.bits.proofs.Bits.{bit_left}

-- to the right
pub bit_shr : (x j e : ℕ) → bit (x / 2 ^ j) e ≡ bit x (e + j)
unfolding bit
bit_shr x j e = ap (λ (y : ℕ). eqb (y % 2) 1) (shr-shr x j e ∙ ap (λ (y : ℕ). x / 2 ^ y) (add_comm j e))

-- to the left, in w bits
pub bit_shl : (x j w e : ℕ) → e + j < w → bit (x * 2 ^ j % 2 ^ w) (e + j) ≡ bit x e
bit_shl x j w e h = bit_left (x * 2 ^ j) w (e + j) h ∙ sym (bit_shr (x * 2 ^ j) j e) ∙ ap (λ (y : ℕ). bit y e) (shl-shr x j)

shifted_low : (x d e : ℕ) → bit (x * 2 ^ (suc d + e)) e ≡ false
unfolding bit
shifted_low x d e =
    ap (λ (y : ℕ). eqb (y % 2) 1)
    (ap (λ (y : ℕ). y / 2 ^ e) (ap (λ (y : ℕ). x * y) (pow-add 2 (suc d) e) ∙ sym (mul_assoc x (2 ^ suc d) (2 ^ e))) ∙ shl-shr (x * 2 ^ suc d) e)
    ∙ ap (λ (y : ℕ). eqb y 1) (shifted_even x d)

pub bit_shl_low : (x j w e : ℕ) → j ≤ w → e < j → bit (x * 2 ^ j % 2 ^ w) e ≡ false
bit_shl_low x j w e h l =
    let z : j ≡ suc (j - suc e) + e = omega arith in
    bit_left (x * 2 ^ j) w e (omega arith) ∙ ap (λ (y : ℕ). bit (x * 2 ^ y) e) z ∙ shifted_low x (j - suc e) e
