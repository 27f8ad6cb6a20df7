-- Laws of `bit`: what bits each operation's result has, and that the bits of a number are the number. Assumes nothing.
use mathlib.Core.Path.{◌≡◌, refl, sym, ap, ap₂, ◌∙◌, subst}
use mathlib.Core.Bool.{Bool, true, false, ◌&&◌, ◌||◌, true≢false, false≢true}
use Prim.Native.Nat.{ℕ, zero, suc, ◌+◌, ◌-◌, ◌*◌, ◌/◌, ◌%◌, ◌^◌, ◌≤◌, ◌<◌, min, max}
use native.Mathlib.Nat.{mod-lt, min-le_left, max-le, lt_of_le_of_lt, zero-lt-suc, div-add-mod', le_refl, pow-suc, mul-one, lt_of_lt_of_le, le_of_suc-le-suc, one-mul, mod-eq_of_lt}
use native.Mathlib.Numerals.{one-add}
use native.Mathlib.Omega.{arith}
use lib.Dec.{eqb, ltb, eqb-zero-suc, eqb-suc-zero, eqb-suc-suc, leb-suc-suc}
use lib.Arith.{digits_mod, digits_div, lt-one, dbl_pred}
use lib.Bits.{bit_and, bit_or, and_step, or_step, and_shr, or_shr, and_le_l, and_mask, shifted_half, shifted_even}
use lib.Pow.{pow_pos, pow-lt, shr-shr}
use borrow.Author.Tests.{eqb-true, eq-eqb, ltb-true, lt-ltb, le-ltb}
use Rattle.bits.specs.Bit.{bit}
use Rattle.finite.specs.Tests.{all, ◌⇒◌}
use Rattle.finite.proofs.Tests.{iff, and_l, and_r, and_i, and-true, imp_e, imp_i, all_get, all_make}

two_pos : 0 < 2
two_pos = zero-lt-suc 1

-- ---- a digit

digit_and : (x y : ℕ) → x < 2 → y < 2 → eqb (min x y) 1 ≡ (eqb x 1 && eqb y 1)
digit_and zero zero hx hy = refl
digit_and zero (suc zero) hx hy = refl
digit_and (suc zero) zero hx hy = refl
digit_and (suc zero) (suc zero) hx hy = refl
digit_and zero (suc (suc y)) hx hy = absurd (omega arith)
digit_and (suc zero) (suc (suc y)) hx hy = absurd (omega arith)
digit_and (suc (suc x)) y hx hy = absurd (omega arith)

digit_or : (x y : ℕ) → x < 2 → y < 2 → eqb (max x y) 1 ≡ (eqb x 1 || eqb y 1)
digit_or zero zero hx hy = refl
digit_or zero (suc zero) hx hy = refl
digit_or (suc zero) zero hx hy = refl
digit_or (suc zero) (suc zero) hx hy = refl
digit_or zero (suc (suc y)) hx hy = absurd (omega arith)
digit_or (suc zero) (suc (suc y)) hx hy = absurd (omega arith)
digit_or (suc (suc x)) y hx hy = absurd (omega arith)

digit_same : (x y : ℕ) → x < 2 → y < 2 → eqb x 1 ≡ eqb y 1 → x ≡ y
digit_same zero zero hx hy e = refl
digit_same zero (suc zero) hx hy e = absurd (false≢true e)
digit_same (suc zero) zero hx hy e = absurd (true≢false e)
digit_same (suc zero) (suc zero) hx hy e = refl
digit_same zero (suc (suc y)) hx hy e = absurd (omega arith)
digit_same (suc zero) (suc (suc y)) hx hy e = absurd (omega arith)
digit_same (suc (suc x)) y hx hy e = absurd (omega arith)

low_and : (x y : ℕ) → bit_and x y % 2 ≡ min (x % 2) (y % 2)
low_and x y =
    ap (λ (z : ℕ). z % 2) (and_step x y)
    ∙ digits_mod (bit_and (x / 2) (y / 2)) (lt_of_le_of_lt (min-le_left (x % 2) (y % 2)) (mod-lt x two_pos))

low_or : (x y : ℕ) → bit_or x y % 2 ≡ max (x % 2) (y % 2)
low_or x y =
    ap (λ (z : ℕ). z % 2) (or_step x y)
    ∙ digits_mod (bit_or (x / 2) (y / 2)) (lt_of_le_of_lt (max-le (le_of_suc-le-suc (mod-lt x two_pos)) (le_of_suc-le-suc (mod-lt y two_pos))) (le_refl 2))

-- ---- the operations, bit by bit

pub bit-and : (a b i : ℕ) → bit (bit_and a b) i ≡ (bit a i && bit b i)
unfolding bit
bit-and a b i =
    ap (λ (x : ℕ). eqb (x % 2) 1) (and_shr a b i) ∙ ap (λ (x : ℕ). eqb x 1) (low_and (a / 2 ^ i) (b / 2 ^ i))
    ∙ digit_and (a / 2 ^ i % 2) (b / 2 ^ i % 2) (mod-lt (a / 2 ^ i) two_pos) (mod-lt (b / 2 ^ i) two_pos)

pub bit-or : (a b i : ℕ) → bit (bit_or a b) i ≡ (bit a i || bit b i)
unfolding bit
bit-or a b i =
    ap (λ (x : ℕ). eqb (x % 2) 1) (or_shr a b i) ∙ ap (λ (x : ℕ). eqb x 1) (low_or (a / 2 ^ i) (b / 2 ^ i))
    ∙ digit_or (a / 2 ^ i % 2) (b / 2 ^ i % 2) (mod-lt (a / 2 ^ i) two_pos) (mod-lt (b / 2 ^ i) two_pos)

pub bit_low : (a : ℕ) → bit a 0 ≡ eqb (a % 2) 1
unfolding bit
bit_low a = ap (λ (x : ℕ). eqb (x % 2) 1) (sym (ap (λ (x : ℕ). x / 2 ^ 0) (mul-one a)) ∙ digits a)
  where
    digits : (a : ℕ) → a * 1 / 1 ≡ a
    digits a = omega arith

pub bit-suc : (a i : ℕ) → bit a (suc i) ≡ bit (a / 2) i
unfolding bit
bit-suc a i = ap (λ (x : ℕ). eqb (x % 2) 1) (ap (λ (n : ℕ). a / 2 ^ n) (sym (one-add i)) ∙ sym (shr-shr a 1 i))

pub bit-zero : (i : ℕ) → bit 0 i ≡ false
bit-zero zero = bit_low 0
bit-zero (suc i) = bit-suc 0 i ∙ bit-zero i

-- ---- single bits, and the bits below k

pub bit-pow : (i j : ℕ) → bit (2 ^ i) j ≡ eqb j i
bit-pow zero zero = bit_low 1
bit-pow zero (suc j) = bit-suc 1 j ∙ bit-zero j ∙ sym (eqb-suc-zero j)
bit-pow (suc i) zero = bit_low (2 ^ suc i) ∙ ap (λ (x : ℕ). eqb x 1) (ap (λ (x : ℕ). x % 2) (sym (one-mul (2 ^ suc i))) ∙ shifted_even 1 i) ∙ sym (eqb-zero-suc i)
bit-pow (suc i) (suc j) =
    bit-suc (2 ^ suc i) j
    ∙ ap (λ (x : ℕ). bit x j) (ap (λ (x : ℕ). x / 2) (sym (one-mul (2 ^ suc i))) ∙ shifted_half 1 i ∙ one-mul (2 ^ i))
    ∙ bit-pow i j ∙ sym (eqb-suc-suc j i)

ones_suc : (k : ℕ) → 2 ^ suc k - 1 ≡ (2 ^ k - 1) * 2 + 1
ones_suc k = ap (λ (x : ℕ). x - 1) (pow-suc 2 k) ∙ dbl_pred (pow_pos k)

pub bit_ones : (k j : ℕ) → bit (2 ^ k - 1) j ≡ ltb j k
bit_ones zero j = bit-zero j ∙ sym (le-ltb j 0 (omega arith))
bit_ones (suc k) zero =
    bit_low (2 ^ suc k - 1) ∙ ap (λ (x : ℕ). eqb x 1) (ap (λ (x : ℕ). x % 2) (ones_suc k) ∙ digits_mod (2 ^ k - 1) (le_refl 2))
    ∙ sym (lt-ltb 0 (suc k) (omega arith))
bit_ones (suc k) (suc j) =
    bit-suc (2 ^ suc k - 1) j
    ∙ ap (λ (x : ℕ). bit x j) (ap (λ (x : ℕ). x / 2) (ones_suc k) ∙ digits_div (2 ^ k - 1) (le_refl 2))
    ∙ bit_ones k j ∙ sym (leb-suc-suc (suc j) k)

-- ---- a number is its bits

pub bit_ext : (n a b : ℕ) → a < 2 ^ n → b < 2 ^ n → ((i : ℕ) → i < n → bit a i ≡ bit b i) → a ≡ b
bit_ext zero a b ha hb f = lt-one ha ∙ sym (lt-one hb)
bit_ext (suc n) a b ha hb f =
    let ha' : a < 2 ^ n * 2 = subst (λ (x : ℕ). a < x) (pow-suc 2 n) ha in
    let hb' : b < 2 ^ n * 2 = subst (λ (x : ℕ). b < x) (pow-suc 2 n) hb in
    let high : a / 2 ≡ b / 2 = bit_ext n (a / 2) (b / 2) (omega arith) (omega arith)
    (λ i l. sym (bit-suc a i) ∙ f (suc i) (omega arith) ∙ bit-suc b i) in
    let low : a % 2 ≡ b % 2 = digit_same (a % 2) (b % 2) (mod-lt a two_pos) (mod-lt b two_pos) (sym (bit_low a) ∙ f 0 (omega arith) ∙ bit_low b) in
    sym (div-add-mod' a 2) ∙ ap₂ (λ (x y : ℕ). x * 2 + y) high low ∙ div-add-mod' b 2

-- a is inside b
pub bit-inside : (n a b : ℕ) → a < 2 ^ n → eqb (bit_and a b) a ≡ all n (λ j. bit a j ⇒ bit b j)
bit-inside n a b ha =
    iff
    (λ e. all_make n (λ j. bit a j ⇒ bit b j)
    (λ j l. imp_i (bit a j) (bit b j)
    (λ t. and_r (bit a j) (bit b j) (sym (bit-and a b j) ∙ ap (λ (x : ℕ). bit x j) (eqb-true (bit_and a b) a e) ∙ t))))
    (λ h. eq-eqb (bit_and a b) a
    (bit_ext n (bit_and a b) a (lt_of_le_of_lt (and_le_l a b) ha) ha
    (λ i l. bit-and a b i
    ∙ iff (λ t. and_l (bit a i) (bit b i) t)
    (λ t. and_i (bit a i) (bit b i) t (imp_e (bit a i) (bit b i) (all_get n (λ j. bit a j ⇒ bit b j) h i l) t)))))

-- 1 << i
pub one_shl : (i w : ℕ) → i < w → 1 * 2 ^ i % 2 ^ w ≡ 2 ^ i
one_shl i w h = ap (λ (x : ℕ). x % 2 ^ w) (one-mul (2 ^ i)) ∙ mod-eq_of_lt (pow-lt h)

-- the laws of each operation of the code, event by event
pub bit_with : (row i j : ℕ) → bit (bit_or row (2 ^ i)) j ≡ (bit row j || eqb j i)
bit_with row i j = bit-or row (2 ^ i) j ∙ ap (λ t. bit row j || t) (bit-pow i j)

pub bit_below : (a k j : ℕ) → bit (bit_and a (2 ^ k - 1)) j ≡ (bit a j && ltb j k)
bit_below a k j = bit-and a (2 ^ k - 1) j ∙ ap (λ t. bit a j && t) (bit_ones k j)

-- the bits below k are those of what is left by 2 ^ k
pub bit_left : (r k b : ℕ) → b < k → bit (r % 2 ^ k) b ≡ bit r b
bit_left r k b h = ap (λ (x : ℕ). bit x b) (sym (and_mask r k)) ∙ bit_below r k b ∙ ap (λ t. bit r b && t) (lt-ltb b k h) ∙ and-true (bit r b)

-- what a and the numbers below k share is inside b where a is, below k
pub inside_masked : (n k a b : ℕ) → k ≤ n
    → all n (λ j. bit (bit_and a (2 ^ k - 1)) j ⇒ bit b j) ≡ all k (λ j. bit a j ⇒ bit b j)
inside_masked n k a b h =
    let m : ℕ = bit_and a (2 ^ k - 1) in
    let p : ℕ → Bool = λ j. bit m j ⇒ bit b j in
    let q : ℕ → Bool = λ j. bit a j ⇒ bit b j in
    let low : (j : ℕ) → j < k → bit a j ≡ true → bit m j ≡ true = λ j lt t. bit_below a k j ∙ and_i (bit a j) (ltb j k) t (lt-ltb j k lt) in
    iff
    (λ e. all_make k q (λ j lt. imp_i (bit a j) (bit b j) (λ t. imp_e (bit m j) (bit b j) (all_get n p e j (lt_of_lt_of_le lt h)) (low j lt t))))
    (λ e. all_make n p
    (λ j lt. imp_i (bit m j) (bit b j)
    (λ t.
    let s : (bit a j && ltb j k) ≡ true = sym (bit_below a k j) ∙ t in
    imp_e (bit a j) (bit b j) (all_get k q e j (ltb-true j k (and_r (bit a j) (ltb j k) s))) (and_l (bit a j) (ltb j k) s))))
