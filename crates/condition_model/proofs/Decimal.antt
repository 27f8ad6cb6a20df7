-- Decimal numbers: what is spelled and what digits are worth.
-- Assumes nothing.
use Prim.Native.Nat.{ℕ, zero, suc, ◌+◌, ◌*◌, ◌-◌, ◌/◌, ◌%◌, ◌≤◌, ◌<◌}
use native.Mathlib.Omega.{arith}
use mathlib.Core.Path.{◌≡◌, refl, sym, ap, ◌∙◌, subst}
use mathlib.Core.Logic.{⊎_elim}
use mathlib.Core.Bool.{true, false}
use mathlib.Core.List.{List, [], ◌∷◌, ◌++◌, append_assoc, append-nil}
use lib.Dec.{ltb, leb}
use lib.ListN.{length}
use borrow.Author.Tests.{lt-ltb, le-ltb, le-leb, ltb-true, leb-true, eqb-false, ne_eqb}
use Rattle.finite.specs.Lists.{All}
use Rattle.finite.proofs.All.{all_append}
use Rattle.finite.proofs.Tests.{and_l, and_r, and_i}
use Rattle.number.proofs.Encoding.{lt_or_ge}
use Rattle.condition_model.specs.Grammar.{zero_digit, decimal_by, decimal}
use Rattle.condition_model.specs.Reader.{is_digit, value_by, unfit}

abbrev pub Digits : List ℕ → Type 0
Digits ds = All (λ b. is_digit b ≡ true) ds

pub digit_low : (b : ℕ) → is_digit b ≡ true → zero_digit ≤ b
digit_low b h = leb-true zero_digit b (and_l (leb zero_digit b) (ltb b (zero_digit + 10)) h)

pub digit_high : (b : ℕ) → is_digit b ≡ true → b < zero_digit + 10
digit_high b h = ltb-true b (zero_digit + 10) (and_r (leb zero_digit b) (ltb b (zero_digit + 10)) h)

digit_is : (d : ℕ) → d < 10 → is_digit (zero_digit + d) ≡ true
digit_is d h = and_i _ _ (le-leb zero_digit (zero_digit + d) (omega arith)) (lt-ltb (zero_digit + d) (zero_digit + 10) (omega arith))

-- ---- spelling, at any fuel that does

small : (f v : ℕ) → v < 10 → decimal_by f v ≡ (zero_digit + v) ∷ []
unfolding decimal_by
small zero v h = refl
small (suc f) v h = rw (lt-ltb v 10 h)

fuel_any : (f g v : ℕ) → v ≤ f → v ≤ g → decimal_by f v ≡ decimal_by g v
unfolding decimal_by
fuel_any zero g v a b = let h : v < 10 = omega arith in sym (small g v h)
fuel_any (suc f) zero v a b = let h : v < 10 = omega arith in small (suc f) v h
fuel_any (suc f) (suc g) v a b =
    ⊎_elim
    (λ (h : v < 10). rw (lt-ltb v 10 h))
    (λ (h : 10 ≤ v). rw (le-ltb v 10 h) (ap (λ (l : List ℕ). l ++ ((zero_digit + v % 10) ∷ [])) (fuel_any f g (v / 10) (omega arith) (omega arith))))
    (lt_or_ge v 10)

pub decimal_low : (v : ℕ) → v < 10 → decimal v ≡ (zero_digit + v) ∷ []
unfolding decimal
decimal_low v h = small v v h

decimal_high : (v d : ℕ) → 1 ≤ v → d < 10 → decimal (v * 10 + d) ≡ decimal v ++ ((zero_digit + d) ∷ [])
unfolding decimal decimal_by
decimal_high v d l h =
    let n : ℕ = v * 10 + d in
    let q : (v * 10 + d) / 10 ≡ v = omega arith in
    let r : (v * 10 + d) % 10 ≡ d = omega arith in
    fuel_any (v * 10 + d) (suc (v * 10 + d)) (v * 10 + d) (omega arith) (omega arith)
    ∙ rw (le-ltb (v * 10 + d) 10 (omega arith), q, r) (ap (λ (l : List ℕ). l ++ ((zero_digit + d) ∷ [])) (fuel_any (v * 10 + d) v v (omega arith) (omega arith)))

pub decimal_two : (v : ℕ) → v < 100 → length (decimal v) ≤ 2
decimal_two v l =
    ⊎_elim (λ (h : v < 10). rw (decimal_low v h) (omega arith))
    (λ (h : 10 ≤ v).
    let e : v ≡ v / 10 * 10 + v % 10 = omega arith in
    subst (λ (u : ℕ). length (decimal u) ≤ 2) (sym e) (rw (decimal_high (v / 10) (v % 10) (omega arith) (omega arith), decimal_low (v / 10) (omega arith)) (omega arith)))
    (lt_or_ge v 10)

-- ---- digits that were read are spelled so

grown : (u : ℕ) (ds : List ℕ) → 1 ≤ u → Digits ds → decimal (value_by u ds) ≡ decimal u ++ ds
unfolding value_by
grown u [] l h = sym (append-nil (decimal u))
grown u (b ∷ ds) l h =
    let lo = digit_low b h.0 in
    let hi = digit_high b h.0 in
    let back : zero_digit + (b - zero_digit) ≡ b = omega arith in
    grown (u * 10 + (b - zero_digit)) ds (omega arith) h.1
    ∙ rw (decimal_high u (b - zero_digit) l (omega arith), append_assoc, back)

pub digits_spelt : (ds : List ℕ) → Digits ds → unfit ds ≡ false → decimal (value_by 0 ds) ≡ ds
unfolding unfit value_by
digits_spelt [] h e = let z : ◌≡◌ {A = ℕ} 0 1 = cc in absurd (omega arith)
digits_spelt (b ∷ []) h e =
    let lo = digit_low b h.0 in
    let hi = digit_high b h.0 in
    let back : zero_digit + (0 * 10 + (b - zero_digit)) ≡ b = omega arith in
    decimal_low (0 * 10 + (b - zero_digit)) (omega arith) ∙ rw back
digits_spelt (b ∷ d ∷ ds) h e =
    let lo = digit_low b h.0 in
    let hi = digit_high b h.0 in
    let no = eqb-false b zero_digit e in
    let back : zero_digit + (0 * 10 + (b - zero_digit)) ≡ b = omega arith in
    grown (0 * 10 + (b - zero_digit)) (d ∷ ds) (omega arith) h.1 ∙ rw (decimal_low (0 * 10 + (b - zero_digit)) (omega arith), back)

-- ---- what is spelled has its value, and no needless zero

value-append : (u : ℕ) (ds : List ℕ) (b : ℕ) → value_by u (ds ++ (b ∷ [])) ≡ value_by u ds * 10 + (b - zero_digit)
unfolding value_by
value-append u [] b = refl
value-append u (d ∷ ds) b = value-append (u * 10 + (d - zero_digit)) ds b

-- the first digit of several is no zero
record Leads (ds : List ℕ) : Type 0 where
  head : ℕ
  tail : List ℕ
  is : ds ≡ head ∷ tail
  above : zero_digit < head

record Spelt (v : ℕ) (ds : List ℕ) : Type 0 where
  are : Digits ds
  value : value_by 0 ds ≡ v
  fit : unfit ds ≡ false
  leads : 1 ≤ v → Leads ds

spelt_small : (v : ℕ) → v < 10 → Spelt v ((zero_digit + v) ∷ [])
unfolding value_by unfit
spelt_small v h = record {
  are = (digit_is v h, tt);
  value = omega arith;
  fit = refl;
  leads = λ l. record { head = zero_digit + v; tail = []; is = refl; above = omega arith };
}

unfit_leads : (ds : List ℕ) (b : ℕ) → Leads ds → unfit (ds ++ (b ∷ [])) ≡ false
unfolding unfit
unfit_leads [] b L = let z : ◌≡◌ {A = ℕ} 0 1 = cc in absurd (omega arith)
unfit_leads (h ∷ []) b L = let e : h ≡ L.head = cc in ne_eqb h zero_digit (λ x. omega (arith, L.above))
unfit_leads (h ∷ d ∷ ds) b L = let e : h ≡ L.head = cc in ne_eqb h zero_digit (λ x. omega (arith, L.above))

-- one more digit
spelt_more : (v : ℕ) (ds : List ℕ) → 10 ≤ v → Spelt (v / 10) ds → Spelt v (ds ++ ((zero_digit + v % 10) ∷ []))
spelt_more v ds h S =
    let L = S.leads (omega arith) in
    record {
      are = all_append (λ b. is_digit b ≡ true) ds _ S.are (digit_is (v % 10) (omega arith), tt);
      value = value-append 0 ds (zero_digit + v % 10) ∙ rw S.value (omega arith);
      fit = unfit_leads ds (zero_digit + v % 10) L;
      leads = λ l. record { head = L.head; tail = L.tail ++ ((zero_digit + v % 10) ∷ []); is = rw L.is; above = L.above };
    }

spelt_by : (f v : ℕ) → v ≤ f → Spelt v (decimal_by f v)
unfolding decimal_by
spelt_by zero v a = spelt_small v (omega arith)
spelt_by (suc f) v a =
    ⊎_elim (λ (h : v < 10). rw (lt-ltb v 10 h) (spelt_small v h))
    (λ (h : 10 ≤ v). rw (le-ltb v 10 h) (spelt_more v (decimal_by f (v / 10)) h (spelt_by f (v / 10) (omega arith)))) (lt_or_ge v 10)

module _ (v : ℕ) where
  pub decimal-digits : Digits (decimal v)
  unfolding decimal
  decimal-digits = (spelt_by v v (omega arith)).are

  pub decimal-value : value_by 0 (decimal v) ≡ v
  unfolding decimal
  decimal-value = (spelt_by v v (omega arith)).value

  pub decimal_fit : unfit (decimal v) ≡ false
  unfolding decimal
  decimal_fit = (spelt_by v v (omega arith)).fit
