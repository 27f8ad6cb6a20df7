-- The least event of a set, by the machine's count of the zeros below it. Assumes nothing.
use Prim.Native.Nat.{ℕ, zero, suc, ◌-◌, ◌*◌, ◌/◌, ◌%◌, ◌^◌, ◌≤◌, ◌<◌}
use native.Mathlib.Nat.{mod-lt, pow-suc}
use native.Mathlib.Omega.{arith}
use mathlib.Core.Path.{◌≡◌, refl, sym, ap, ap₂, ◌∙◌, subst}
use mathlib.Core.Bool.{Bool, true, false, not, ◌&&◌}
use lib.Arith.{lt-one}
use lib.Dec.{eqb, eqb-suc-suc, eqb-suc-zero}
use lib.Bits.{bit_and, and_le_r}
use lib.Count.{count_trailing_zeros, under}
use borrow.Author.Tests.{eq-eqb}
use Rattle.bits.specs.Bit.{bit, width}
use Rattle.bits.specs.Members.{Taken}
use Rattle.bits.proofs.Bits.{bit-and, bit_low, bit-suc}

and_same : (b : Bool) → (b && b) ≡ (b && true)
and_same true = refl
and_same false = refl

step : (w n : ℕ) → count_trailing_zeros (suc w) n ≡ under (n % 2) (count_trailing_zeros w (n / 2))
unfolding count_trailing_zeros
step w n = refl

half_fits : (w n : ℕ) → n < 2 ^ suc w → n / 2 < 2 ^ w
half_fits w n h = let h' : n < 2 ^ w * 2 = subst (λ (x : ℕ). n < x) (pow-suc 2 w) h in omega arith

pub lowest_in : (w n : ℕ) → n < 2 ^ w → (n ≡ 0 → ⊥) → bit n (count_trailing_zeros w n) ≡ true
lowest_in zero n h z = absurd (z (lt-one h))
lowest_in (suc w) n h z = ap (bit n) (step w n) ∙ go (lowest_in w (n / 2) (half_fits w n h)) (n % 2) refl
  where
    go : ((n / 2 ≡ 0 → ⊥) → bit (n / 2) (count_trailing_zeros w (n / 2)) ≡ true) → (d : ℕ) → n % 2 ≡ d → bit n (under d (count_trailing_zeros w (n / 2))) ≡ true
    go ih zero e = bit-suc n (count_trailing_zeros w (n / 2)) ∙ ih (λ y. z (omega arith))
    go ih (suc zero) e = bit_low n ∙ ap (λ (x : ℕ). eqb x 1) e
    go ih (suc (suc d)) e = absurd (omega (arith, mod-lt n {m = 2} (omega arith)))

pub lowest_least : (w n e : ℕ) → e < count_trailing_zeros w n → bit n e ≡ false
unfolding count_trailing_zeros
lowest_least zero n e h = absurd (omega arith)
lowest_least (suc w) n e h = go (lowest_least w (n / 2)) (n % 2) refl e (subst (λ (x : ℕ). e < x) (step w n) h)
  where
    go : ((e : ℕ) → e < count_trailing_zeros w (n / 2) → bit (n / 2) e ≡ false) → (d : ℕ) → n % 2 ≡ d → (e : ℕ) → e < under d (count_trailing_zeros w (n / 2)) → bit n e ≡ false
    go ih zero d zero l = bit_low n ∙ ap (λ (x : ℕ). eqb x 1) d
    go ih zero d (suc e) l = bit-suc n e ∙ ih e (omega arith)
    go ih (suc d) q e l = absurd (omega arith)

pub lowest_out : (w n : ℕ) → n < 2 ^ w → (n ≡ 0 → ⊥) → (e : ℕ) → bit (bit_and n (n - 1)) e ≡ (bit n e && not (eqb e (count_trailing_zeros w n)))
lowest_out zero n h z e = absurd (z (lt-one h))
lowest_out (suc w) n h z e = bit-and n (n - 1) e ∙ go (lowest_out w (n / 2) (half_fits w n h)) (n % 2) refl e ∙ ap (λ (t : ℕ). bit n e && not (eqb e t)) (sym (step w n))
  where
    go : ((n / 2 ≡ 0 → ⊥) → (e : ℕ) → bit (bit_and (n / 2) (n / 2 - 1)) e ≡ (bit (n / 2) e && not (eqb e (count_trailing_zeros w (n / 2)))))
        → (d : ℕ) → n % 2 ≡ d → (e : ℕ) → (bit n e && bit (n - 1) e) ≡ (bit n e && not (eqb e (under d (count_trailing_zeros w (n / 2)))))
    go ih zero d zero =
        let low : bit n 0 ≡ false = bit_low n ∙ ap (λ (x : ℕ). eqb x 1) d in
        ap (λ b. b && bit (n - 1) 0) low ∙ sym (ap (λ b. b && not (eqb 0 (suc (count_trailing_zeros w (n / 2))))) low)
    go ih zero d (suc e) =
        let half : (n - 1) / 2 ≡ n / 2 - 1 = omega arith in
        ap₂ (λ a b. a && b) (bit-suc n e) (bit-suc (n - 1) e ∙ ap (λ (x : ℕ). bit x e) half)
        ∙ sym (bit-and (n / 2) (n / 2 - 1) e)
        ∙ ih (λ y. z (omega arith)) e
        ∙ ap₂ (λ a b. a && not b) (sym (bit-suc n e)) (sym (eqb-suc-suc e (count_trailing_zeros w (n / 2))))
    go ih (suc zero) d zero =
        let low : (n - 1) % 2 ≡ 0 = omega arith in
        ap (λ b. bit n 0 && b) (bit_low (n - 1) ∙ ap (λ (x : ℕ). eqb x 1) low) ∙ ap (λ b. bit n 0 && not b) (sym (eq-eqb 0 0 refl))
    go ih (suc zero) d (suc e) =
        let half : (n - 1) / 2 ≡ n / 2 = omega arith in
        ap₂ (λ a b. a && b) (bit-suc n e) (bit-suc (n - 1) e ∙ ap (λ (x : ℕ). bit x e) half)
        ∙ and_same (bit (n / 2) e)
        ∙ ap₂ (λ a b. a && not b) (sym (bit-suc n e)) (sym (eqb-suc-zero e))
    go ih (suc (suc d)) e i = absurd (omega (arith, mod-lt n {m = 2} (omega arith)))

pub lowest_less : (n : ℕ) → (n ≡ 0 → ⊥) → bit_and n (n - 1) < n
lowest_less zero z = absurd (z refl)
lowest_less (suc n) z = let h : bit_and (suc n) (suc n - 1) ≤ suc n - 1 = and_le_r (suc n) (suc n - 1) in omega arith

-- the first event of a set, and the set without it
pub takes_lowest : (n : ℕ) → n < 2 ^ width → (n ≡ 0 → ⊥) → Taken n (count_trailing_zeros width n) (bit_and n (n - 1))
takes_lowest n h z = record {
  member = lowest_in width n h z;
  least = λ e l. lowest_least width n e l;
  left = lowest_out width n h z;
}
