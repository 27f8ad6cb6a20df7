-- Laws of binary digits put into a number and taken out of it.
-- Assumes nothing.
use Prim.Native.Nat.{ℕ, zero, suc, ◌+◌, ◌-◌, ◌*◌, ◌/◌, ◌%◌, ◌^◌, ◌≤◌, ◌<◌}
use native.Mathlib.Nat.{mod-lt, div-add-mod', add-mul, mul-add, mul_assoc, mul_comm, one-mul, zero-mul, zero-add, add-div_right, div-eq_of_lt, mod-eq_of_lt, pow-suc, mul-le-mul_right}
use native.Mathlib.Numerals.{add-one}
use native.Mathlib.Omega.{arith}
use mathlib.Core.Path.{◌≡◌, refl, sym, ap, ap₂, ◌∙◌, subst}
use mathlib.Core.Bool.{Bool, true, false, not}
use lib.Dec.{eqb}
use Rattle.std.proofs.Math.Nat.{mul-div_cancel}
use lib.Arith.{digits_div, digits_mod, digits_lt, mod-mul}
use lib.Pow.{pow_pos, pow-add, pow_mono, pow-lt, shr-shr, shr_lt}
use Rattle.finite.specs.Tests.{tick}
use Rattle.finite.proofs.Tests.{tick-one, one-tick}
use Rattle.bits.specs.Bit.{bit}
use Rattle.model.specs.Limits.{most_events}
use Rattle.columns.specs.Swaps.{digits, insert, omit}

-- ---- a digit
tick-lt : (b : Bool) → tick b < 2
tick-lt true = omega arith
tick-lt false = omega arith

other_digit : (x : ℕ) → x < 2 → eqb (1 - x) 1 ≡ not (eqb x 1)
other_digit zero h = refl
other_digit (suc zero) h = refl
other_digit (suc (suc x)) h = absurd (omega arith)

-- the digits above s
above : (s i : ℕ) → i / 2 ^ (s + 1) ≡ i / 2 ^ s / 2
above s i = sym (shr-shr i s 1)

module _ (s : ℕ) where
  -- ---- digit s put in
  insert_high : (b : Bool) (t : ℕ) → insert s b t / 2 ^ s ≡ t / 2 ^ s * 2 + tick b
  unfolding insert
  insert_high b t = digits_div _ (mod-lt t (pow_pos s))

  insert_low : (b : Bool) (t : ℕ) → insert s b t % 2 ^ s ≡ t % 2 ^ s
  unfolding insert
  insert_low b t = digits_mod (t / 2 ^ s * 2 + tick b) (mod-lt t (pow_pos s))

  insert_above : (b : Bool) (t : ℕ) → insert s b t / 2 ^ (s + 1) ≡ t / 2 ^ s
  insert_above b t = above s (insert s b t) ∙ ap (λ (x : ℕ). x / 2) (insert_high b t) ∙ digits_div (t / 2 ^ s) (tick-lt b)

  pub omit-insert : (b : Bool) (t : ℕ) → omit s (insert s b t) ≡ t
  unfolding omit
  omit-insert b t = ap₂ (λ (x y : ℕ). x * 2 ^ s + y) (insert_above b t) (insert_low b t) ∙ div-add-mod' t (2 ^ s)

  pub digit_insert : (b : Bool) (t : ℕ) → bit (insert s b t) s ≡ b
  unfolding bit
  digit_insert b t =
      ap (λ (x : ℕ). eqb (x % 2) 1) (insert_high b t) ∙ ap (λ (x : ℕ). eqb x 1) (digits_mod (t / 2 ^ s) (tick-lt b)) ∙ tick-one b

  pub insert-omit : (i : ℕ) → insert s (bit i s) (omit s i) ≡ i
  unfolding insert omit bit
  insert-omit i =
      ap₂ (λ (x y : ℕ). (x * 2 + tick (eqb (i / 2 ^ s % 2) 1)) * 2 ^ s + y)
      (digits_div (i / 2 ^ (s + 1)) (mod-lt i (pow_pos s)) ∙ above s i)
      (digits_mod (i / 2 ^ (s + 1)) (mod-lt i (pow_pos s)))
      ∙ ap (λ (x : ℕ). (i / 2 ^ s / 2 * 2 + x) * 2 ^ s + i % 2 ^ s) (one-tick (i / 2 ^ s % 2) (mod-lt (i / 2 ^ s) (omega arith)))
      ∙ ap (λ (x : ℕ). x * 2 ^ s + i % 2 ^ s) (div-add-mod' (i / 2 ^ s) 2)
      ∙ div-add-mod' i (2 ^ s)

  -- digit 1 for digit 0
  pub insert-true : (t : ℕ) → insert s true t ≡ insert s false t + 2 ^ s
  unfolding insert
  insert-true t = more (t / 2 ^ s * 2) (2 ^ s) (t % 2 ^ s)
    where
      more : (x p l : ℕ) → (x + 1) * p + l ≡ (x + 0) * p + l + p
      more x p l = simp (add-mul, one-mul, zero-mul) (omega arith)

  -- a number and that digit's value more differ in the digit
  pub digit_flips : (i : ℕ) → bit (i + 2 ^ s) s ≡ not (bit i s)
  unfolding bit
  digit_flips i =
      ap (λ (x : ℕ). eqb (x % 2) 1) (add-div_right i (pow_pos s))
      ∙ ap (λ (x : ℕ). eqb x 1) (next (i / 2 ^ s))
      ∙ other_digit (i / 2 ^ s % 2) (mod-lt (i / 2 ^ s) (omega arith))
    where
      next : (x : ℕ) → (x + 1) % 2 ≡ 1 - x % 2
      next x = omega arith

  -- ---- bounds, where there are d digits above s
  up_to : (d : ℕ) → 2 ^ (suc d + s) ≡ 2 ^ d * 2 * 2 ^ s
  up_to d = pow-add 2 (suc d) s ∙ ap (λ (x : ℕ). x * 2 ^ s) (pow-suc 2 d)

  insert-below : (d : ℕ) (b : Bool) (t : ℕ) → t < 2 ^ (d + s) → insert s b t < 2 ^ (suc d + s)
  unfolding insert
  insert-below d b t l =
      let q : t / 2 ^ s < 2 ^ d = shr_lt d s l in
      let z = tick-lt b in
      let high : t / 2 ^ s * 2 + tick b < 2 ^ d * 2 = omega arith in
      rw (up_to d) (digits_lt high (mod-lt t (pow_pos s)))

  omit-below : (d i : ℕ) → i < 2 ^ (suc d + s) → omit s i < 2 ^ (d + s)
  unfolding omit
  omit-below d i l =
      let z : suc d + s ≡ d + (s + 1) = omega arith in
      rw (pow-add 2 d s) (digits_lt (shr_lt d (s + 1) (rw z at l)) (mod-lt i (pow_pos s)))

  pub insert-lt : (h : ℕ) (b : Bool) (t : ℕ) → s ≤ h → t < 2 ^ h → insert s b t < 2 ^ (h + 1)
  insert-lt h b t l lt =
      let e : h ≡ (h - s) + s = omega arith in
      let f : h + 1 ≡ suc (h - s) + s = omega arith in
      rw f (insert-below (h - s) b t (subst (λ (x : ℕ). t < 2 ^ x) e lt))

  pub omit-lt : (h i : ℕ) → s ≤ h → i < 2 ^ (h + 1) → omit s i < 2 ^ h
  omit-lt h i l lt =
      let e : h ≡ (h - s) + s = omega arith in
      let f : h + 1 ≡ suc (h - s) + s = omega arith in
      rw e (omit-below (h - s) i (subst (λ (x : ℕ). i < 2 ^ x) f lt))

-- ---- i with the digits below s of j
pub mix : ℕ → ℕ → ℕ → ℕ
mix s i j = i / 2 ^ s * 2 ^ s + j % 2 ^ s

pub mix_none : (i j : ℕ) → mix 0 i j ≡ i
unfolding mix
mix_none i j = omega arith

pub mix_all : (s i j : ℕ) → i < 2 ^ s → j < 2 ^ s → mix s i j ≡ j
unfolding mix
mix_all s i j hi hj = ap₂ (λ (x y : ℕ). x * 2 ^ s + y) (div-eq_of_lt hi) (mod-eq_of_lt hj) ∙ simp (zero-mul, zero-add)

-- one digit more
pub mix_more : (s : ℕ) (b c : Bool) (t u : ℕ) → mix s (insert s c t) (insert s b u) ≡ mix (s + 1) (insert s b t) (insert s c u)
unfolding mix insert
mix_more s b c t u =
    ap₂ (λ (x y : ℕ). x * 2 ^ s + y) (insert_high s c t) (insert_low s b u)
    ∙ regroup (t / 2 ^ s) (tick c) (2 ^ s) (u % 2 ^ s)
    ∙ sym (ap₂ (λ (x y : ℕ). x + y) (ap₂ ◌*◌ (insert_above s b t) two) low)
  where
    two : 2 ^ (s + 1) ≡ 2 * 2 ^ s
    two = pow-add 2 s 1 ∙ mul_comm (2 ^ s) 2

    low : insert s c u % 2 ^ (s + 1) ≡ tick c * 2 ^ s + u % 2 ^ s
    low =
        ap (λ (x : ℕ). insert s c u % x) two ∙ mod-mul (insert s c u) (omega arith) (pow_pos s)
        ∙ ap₂ (λ (x y : ℕ). x % 2 * 2 ^ s + y) (insert_high s c u) (insert_low s c u)
        ∙ ap (λ (x : ℕ). x * 2 ^ s + u % 2 ^ s) (digits_mod (u / 2 ^ s) (tick-lt c))

    regroup : (x y p l : ℕ) → (x * 2 + y) * p + l ≡ x * (2 * p) + (y * p + l)
    regroup x y p l = simp (add-mul, mul_assoc) (omega arith)

-- ---- a digit's value, and the two rows of a pair
pub place-lt : (s : ℕ) → s < digits → 2 ^ s < most_events
place-lt s h = pow-lt h

pub half_le : (s : ℕ) → s < digits → 2 ^ s ≤ most_events / 2
half_le s h = pow_mono {j = digits - 1} (omega arith)

-- the row of t with digit 0, where the digits of t from s on stand for a
row_is : (s t a : ℕ) → t / 2 ^ s * 2 ^ s ≡ a → a + t ≡ insert s false t
unfolding insert
row_is s t a h = twice (t / 2 ^ s) (2 ^ s) (t % 2 ^ s) (div-add-mod' t (2 ^ s)) h
  where
    twice : (x p l : ℕ) → x * p + l ≡ t → x * p ≡ a → a + t ≡ (x * 2 + 0) * p + l
    twice x p l e f = let z : 2 * p ≡ p + p = omega arith in simp (add-mul, zero-mul, mul_assoc, z, mul-add) (omega arith)

pub row_fits : (s t a : ℕ) → s < digits → t / 2 ^ s * 2 ^ s ≡ a → t < most_events / 2 → (a + t ≡ insert s false t) × (a + t + 2 ^ s < most_events)
row_fits s t a hs h ht =
    let e = row_is s t a h in
    (e, subst (λ (x : ℕ). x < most_events) (insert-true s t ∙ ap (λ (x : ℕ). x + 2 ^ s) (sym e)) (insert-lt s (digits - 1) true t (omega arith) ht))

-- ---- the numbers whose digits from s on stand for a
pub block_at : (s a : ℕ) → a / 2 ^ s * 2 ^ s ≡ a → (t : ℕ) → a ≤ t → t < a + 2 ^ s → t / 2 ^ s * 2 ^ s ≡ a
block_at s a h t l g =
    let z : t ≡ a / 2 ^ s * 2 ^ s + (t - a) = omega arith in
    let small : t - a < 2 ^ s = omega arith in
    ap (λ (x : ℕ). x * 2 ^ s) (ap (λ (x : ℕ). x / 2 ^ s) z ∙ digits_div (a / 2 ^ s) small) ∙ h

-- ---- the blocks of 2 ^ s numbers below 2 ^ n
pub block_first : (s b : ℕ) → b * 2 ^ s / 2 ^ s * 2 ^ s ≡ b * 2 ^ s
block_first s b = ap (λ (x : ℕ). x * 2 ^ s) (mul-div_cancel b (pow_pos s))

pub block_next : (s b : ℕ) → (b + 1) * 2 ^ s ≡ b * 2 ^ s + 2 ^ s
block_next s b = simp (add-mul, one-mul)

module _ (s n : ℕ) (l : s ≤ n) where
  pub blocks : 2 ^ (n - s) * 2 ^ s ≡ 2 ^ n
  blocks = let e : (n - s) + s ≡ n = omega arith in sym (pow-add 2 (n - s) s) ∙ ap (λ (x : ℕ). 2 ^ x) e

  pub block_fits : (b : ℕ) → b < 2 ^ (n - s) → b * 2 ^ s + 2 ^ s ≤ 2 ^ n
  block_fits b g =
      let m : suc b * 2 ^ s ≤ 2 ^ (n - s) * 2 ^ s = mul-le-mul_right (2 ^ s) g in
      let z : suc b * 2 ^ s ≡ b * 2 ^ s + 2 ^ s = ap (λ (x : ℕ). x * 2 ^ s) (sym (add-one b)) ∙ block_next s b in
      let e = blocks in
      omega arith
