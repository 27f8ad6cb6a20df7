-- Sets of numbers as numbers.
-- Assumes nothing.
use Prim.Native.Nat.{ℕ, zero, suc, ◌+◌, ◌*◌, ◌^◌, ◌≤◌, ◌<◌}
use native.Mathlib.Nat.{pow-suc, add_comm, zero-mul, add-zero, one-mul, lt_of_lt_of_le}
use native.Mathlib.Numerals.{add-one}
use native.Mathlib.Omega.{arith}
use mathlib.Core.Path.{◌≡◌, refl, sym, ap, ap₂, ◌∙◌}
use mathlib.Core.Bool.{Bool, true, false, ◌&&◌}
use lib.Dec.{ltb}
use lib.Bits.{bit_or, or_shifted_r}
use lib.Pow.{pow_pos, pow_mono}
use borrow.Author.Tests.{le-ltb}
use Rattle.finite.specs.Tests.{tick}
use Rattle.finite.proofs.Tests.{gather_in, gather_out}
use Rattle.bits.specs.Bit.{bit}
use Rattle.bits.proofs.Bits.{bit-zero, bit_with, bit_ext}
use Rattle.storage.specs.Held.{set_of}

-- a set of numbers below k is below 2 ^ k
pub set_low : (k : ℕ) (p : ℕ → Bool) → set_of k p < 2 ^ k
unfolding set_of
set_low zero p = pow_pos 0
set_low (suc k) p = by (p k) (set_low k p)
  where
    by : (t : Bool) → set_of k p < 2 ^ k → set_of k p + tick t * 2 ^ k < 2 ^ suc k
    by true l = rw (one-mul (2 ^ k), pow-suc 2 k) (omega (arith, l))
    by false l = rw (zero-mul (2 ^ k), pow-suc 2 k) (omega (arith, l))

-- the set's numbers
pub set-bit : (k : ℕ) (p : ℕ → Bool) (i : ℕ) → bit (set_of k p) i ≡ (ltb i k && p i)
unfolding set_of
set-bit zero p i = bit-zero i ∙ sym (ap (λ (t : Bool). t && p i) (le-ltb i 0 (omega arith)))
set-bit (suc k) p i = by (p k) refl (set-bit k p i)
  where
    by : (t : Bool) → p k ≡ t → bit (set_of k p) i ≡ (ltb i k && p i) → bit (set_of k p + tick t * 2 ^ k) i ≡ (ltb i (suc k) && p i)
    by true e h =
        let joined : set_of k p + 1 * 2 ^ k ≡ bit_or (set_of k p) (2 ^ k) =
        add_comm (set_of k p) (1 * 2 ^ k) ∙ sym (or_shifted_r 1 k (set_of k p) (set_low k p)) ∙ ap (bit_or (set_of k p)) (one-mul (2 ^ k)) in
        rw (joined, bit_with (set_of k p) k i, h, ← add-one k) (gather_in p k i e)
    by false e h = rw (zero-mul (2 ^ k), add-zero (set_of k p), h, ← add-one k) (gather_out p k i e)

-- a number that has exactly the set's bits is the set
pub set_is : (n k : ℕ) (p : ℕ → Bool) (r : ℕ) → r < 2 ^ n → k ≤ n → ((i : ℕ) → i < n → bit r i ≡ (ltb i k && p i)) → r ≡ set_of k p
set_is n k p r h l f = bit_ext n r (set_of k p) h (lt_of_lt_of_le (set_low k p) (pow_mono l)) (λ i m. f i m ∙ sym (set-bit k p i))

-- each number is small enough for `set_is`
below_power : (n : ℕ) → n < 2 ^ n
below_power zero = pow_pos 0
below_power (suc n) = let l = below_power n in rw (pow-suc 2 n) (omega (arith, l))

-- the same where every bit is told
pub set_bits : (k : ℕ) (p : ℕ → Bool) (r : ℕ) → ((i : ℕ) → bit r i ≡ (ltb i k && p i)) → r ≡ set_of k p
set_bits k p r f = set_is (r + k) k p r (lt_of_lt_of_le (below_power r) (pow_mono (omega arith))) (omega arith) (λ i m. f i)

-- tests that agree below k make one set
pub set_same : (k : ℕ) (p q : ℕ → Bool) → ((i : ℕ) → i < k → p i ≡ q i) → set_of k p ≡ set_of k q
unfolding set_of
set_same zero p q f = refl
set_same (suc k) p q f = ap₂ (λ (x : ℕ) (t : Bool). x + tick t * 2 ^ k) (set_same k p q (λ i l. f i (omega arith))) (f k (omega arith))

-- a number that does not pass adds nothing
pub set_more : (k : ℕ) (p : ℕ → Bool) → p k ≡ false → set_of (suc k) p ≡ set_of k p
unfolding set_of
set_more k p e = rw (e, zero-mul (2 ^ k)) (add-zero (set_of k p))

-- a set of none
pub set-none : (k : ℕ) (p : ℕ → Bool) → ((i : ℕ) → i < k → p i ≡ false) → set_of k p ≡ 0
unfolding set_of
set-none zero p f = refl
set-none (suc k) p f = set_more k p (f k (omega arith)) ∙ set-none k p (λ i l. f i (omega arith))
