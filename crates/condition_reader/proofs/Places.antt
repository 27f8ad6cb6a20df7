-- Laws of bytes, spaces and digits at a place.
-- Assumes nothing.
use Prim.Native.Nat.{ℕ, zero, suc, ◌+◌, ◌*◌, ◌-◌, ◌^◌, ◌≤◌, ◌<◌}
use mathlib.Core.Path.{◌≡◌, refl, sym, ap, ◌∙◌}
use mathlib.Core.Logic.{⊎_elim}
use mathlib.Core.List.{List, [], ◌∷◌}
use mathlib.Core.Bool.{Bool, true, false, cond, ◌&&◌, ◌||◌}
use native.Mathlib.Nat.{le_refl, not-suc-le-zero, le_of_suc-le-suc}
use native.Mathlib.Numerals.{add-one}
use native.Mathlib.Omega.{arith}
use lib.Dec.{eqb, ltb}
use lib.ListN.{length, get_or, take, drop, drop_of_length-le, length-drop}
use Rattle.std.specs.List.{prefix_len}
use Rattle.std.proofs.lemmas.List.Sums.{take_while-cons}
use lib.Seq.{drop-cons}
use mir.Syntax.{w64}
use mir.Val.{Fits}
use borrow.Author.Tests.{le-leb, lt-leb, lt-ltb, eqb-true, ne_eqb}
use Rattle.number.specs.Reader.{Out, stop, next, unless}
use Rattle.number.proofs.Encoding.{lt_or_ge}
use Rattle.condition_model.proofs.Decimal.{digit_low, digit_high}
use Rattle.condition_model.proofs.Parts.{inside}
use Rattle.model.specs.Limits.{most_value}
use Rattle.condition_model.specs.Grammar.{zero_digit}
use Rattle.condition_model.specs.Reader.{is, byte, front, is_digit, digits, value_by, unfit, number_of, number, number_in}
use Rattle.condition_reader.specs.Told.{is_value, digits_in}

-- where a byte stands the text has not ended
pub stands_inside : (s : List ℕ) (i x : ℕ) → x < 256 → is x s i ≡ true → i < length s
stands_inside s i x l h = inside s i (omega (arith, eqb-true (byte s i) x h))

pub digit_inside : (s : List ℕ) (i : ℕ) → is_digit (byte s i) ≡ true → i < length s
digit_inside s i h = inside s i (omega (arith, digit_high (byte s i) h))

at_drop : (s : List ℕ) (i : ℕ) → i < length s → drop i s ≡ byte s i ∷ drop (i + 1) s
at_drop s i h = rw (add-one, drop-cons s i 256)

-- the bytes that pass, from a place on
module _ (test : ℕ → Bool) (s : List ℕ) (i : ℕ) where
  front_on : i < length s → test (byte s i) ≡ true → front test (drop i s) ≡ byte s i ∷ front test (drop (i + 1) s)
  unfolding front
  front_on l h = rw (at_drop s i l, h)

  front_stops : test (byte s i) ≡ false → front test (drop i s) ≡ []
  unfolding front
  front_stops h =
      ⊎_elim
      (λ (l : i < length s). rw (at_drop s i l, h))
      (λ (g : length s ≤ i). rw (drop_of_length-le s g))
      (lt_or_ge i (length s))

-- those are as many as a chain of iterators takes
pub front-prefix : (test : ℕ → Bool) (xs : List ℕ) → take (prefix_len test xs) xs ≡ front test xs
unfolding front
front-prefix test [] = refl
front-prefix test (x ∷ xs) = take_while-cons test x xs ∙ ap (λ (l : List ℕ). cond (test x) (x ∷ l) []) (front-prefix test xs)

pub front-count : (test : ℕ → Bool) (xs s : List ℕ) → xs ≡ s → length (take (prefix_len test xs) xs) ≡ length (front test s)
front-count test xs s e = ap (λ (l : List ℕ). length l) (front-prefix test xs) ∙ ap (λ (l : List ℕ). length (front test l)) e

front-short : (test : ℕ → Bool) (xs : List ℕ) → length (front test xs) ≤ length xs
unfolding front
front-short test [] = omega arith
front-short test (x ∷ xs) = go (test x) (front test xs) (front-short test xs)
  where
    go : (t : Bool) (ys : List ℕ) → length ys ≤ length xs → length (cond t (x ∷ ys) []) ≤ suc (length xs)
    go true ys h = omega arith
    go false ys h = omega arith

digit_on : (s : List ℕ) (i : ℕ) → is_digit (byte s i) ≡ true → digits (drop i s) ≡ byte s i ∷ digits (drop (i + 1) s)
digit_on s i h = front_on is_digit s i (digit_inside s i h) h

digit_stops : (s : List ℕ) (i : ℕ) → is_digit (byte s i) ≡ false → digits (drop i s) ≡ []
digit_stops s i h = front_stops is_digit s i h

value_grows : (v : ℕ) (ds : List ℕ) → v ≤ value_by v ds
unfolding value_by
value_grows v [] = le_refl v
value_grows v (d ∷ ds) = let h : v * 10 + (d - zero_digit) ≤ value_by (v * 10 + (d - zero_digit)) ds = value_grows (v * 10 + (d - zero_digit)) ds in omega arith

digit_here : (s : List ℕ) (i : ℕ) → 0 < length (digits (drop i s)) → is_digit (byte s i) ≡ true
digit_here s i h = go (is_digit (byte s i)) refl
  where
    go : (t : Bool) → is_digit (byte s i) ≡ t → t ≡ true
    go true e = refl
    go false e = absurd (omega (arith, ap length (digit_stops s i e)))

-- where a digit stands the text has not ended
pub digits_inside : (s : List ℕ) (at n : ℕ) → n ≡ length (digits (drop at s)) → 0 < n → at < length s
digits_inside s at n e h = digit_inside s at (digit_here s at (omega arith))

-- inside the list the default does not matter
get_d_any : (s : List ℕ) (i a b : ℕ) → i < length s → get_or s i a ≡ get_or s i b
get_d_any [] i a b h = absurd (not-suc-le-zero h)
get_d_any (x ∷ s) zero a b h = refl
get_d_any (x ∷ s) (suc i) a b h = get_d_any s i a b (le_of_suc-le-suc h)

-- the place behind what passes is one of the machine's numbers
pub end_fits : (test : ℕ → Bool) (s : List ℕ) (at n : ℕ) → n ≡ length (front test (drop at s)) → length s * 1 < 2 ^ 63 → at < 2 ^ 64 → Fits w64 (at + n)
end_fits test s at n e h l = record { fits = omega (arith, front-short test (drop at s), length-drop at s) }

-- the digits from i on, behind digits of the value v, are those from at on
pub record Passed (s : List ℕ) (at i v : ℕ) : Type 0 where
  pub value : value_by v (digits (drop i s)) ≡ value_by 0 (digits (drop at s))
  pub place : i + length (digits (drop i s)) ≡ at + length (digits (drop at s))
  pub small : v ≤ most_value

pub passed_none : (s : List ℕ) (at : ℕ) → Passed s at at 0
passed_none s at = record { value = refl; place = refl; small = omega arith }

module _ (s : List ℕ) (at n : ℕ) (en : n ≡ length (digits (drop at s))) (i v : ℕ) (h : Passed s at i v) where
  module _ (l : i < at + n) where
    here : is_digit (byte s i) ≡ true
    here = digit_here s i (omega (arith, h.place))

    pub read_inside : i < length s
    read_inside = digit_inside s i here

    same_byte : byte s i ≡ get_or s i 0
    same_byte = get_d_any s i 256 0 read_inside

    pub least : zero_digit ≤ get_or s i 0
    least = omega (arith, digit_low (byte s i) here, same_byte)

    module _ (d : ℕ) (ed : d ≡ get_or s i 0 - zero_digit) where
      pub sum_fits : Fits w64 (v * 10 + d)
      sum_fits = record { fits = omega (arith, digit_high (byte s i) here, same_byte, h.small) }

      step : value_by v (digits (drop i s)) ≡ value_by (v * 10 + d) (digits (drop (i + 1) s))
      unfolding value_by
      step = rw (digit_on s i here, same_byte, ed)

      pub passed_next : v * 10 + d ≤ most_value → Passed s at (i + 1) (v * 10 + d)
      passed_next m =
          let q : i + suc (length (digits (drop (i + 1) s))) ≡ at + length (digits (drop at s)) = rw (digit_on s i here) at h.place in
          record { value = sym step ∙ h.value; place = omega arith; small = m }

      pub passed_big : most_value < v * 10 + d → stop 3 at ≡ digits_in s at
      unfolding digits_in
      passed_big m =
          let g : most_value < value_by (v * 10 + d) (digits (drop (i + 1) s)) = omega (arith, value_grows (v * 10 + d) (digits (drop (i + 1) s))) in
          rw (← h.value, step, lt-leb _ most_value g)

  pub passed_all : at + n ≤ i → next v (at + n) ≡ digits_in s at
  unfolding digits_in value_by
  passed_all g = rw (← h.value, ← en, none (digits (drop i s)) (omega (arith, h.place)), le-leb v most_value h.small)
    where
      none : (ds : List ℕ) → length ds ≡ 0 → ds ≡ []
      none [] z = refl
      none (d ∷ ds) z = absurd (omega arith)

-- ---- numbers

head-same : {x y : ℕ} {l m : List ℕ} → x ∷ l ≡ y ∷ m → x ≡ y
head-same h = ap (λ (l : List ℕ). get_or l 0 0) h

pub unfit-by : (s : List ℕ) (at n : ℕ) → n ≡ length (digits (drop at s)) → unfit (digits (drop at s)) ≡ (eqb n 0 || (ltb 1 n && eqb (get_or s at 0) zero_digit))
unfolding unfit
unfit-by s at n e = by (digits (drop at s)) n e (get_or s at 0) (λ x l h. first x l h)
  where
    first : (x : ℕ) (l : List ℕ) → digits (drop at s) ≡ x ∷ l → x ≡ get_or s at 0
    first x l h =
        let d = digit_here s at (omega (arith, ap (λ (l : List ℕ). length l) h)) in
        head-same (sym h ∙ digit_on s at d) ∙ get_d_any s at 256 0 (digit_inside s at d)

    fit : (b : ℕ) (ds : List ℕ) → unfit (b ∷ ds) ≡ (eqb (suc (length ds)) 0 || (ltb 1 (suc (length ds)) && eqb b zero_digit))
    fit b [] = refl
    fit b (d ∷ ds) = rw (ne_eqb (suc (suc (length ds))) 0 (λ z. omega arith), lt-ltb 1 (suc (suc (length ds))) (omega arith))

    by : (ds : List ℕ) (m : ℕ) → m ≡ length ds → (b : ℕ) → ((x : ℕ) (l : List ℕ) → ds ≡ x ∷ l → x ≡ b) → unfit ds ≡ (eqb m 0 || (ltb 1 m && eqb b zero_digit))
    by [] m h b f = rw h
    by (x ∷ l) m h b f = rw (h, ← f x l refl) (fit x l)

module _ (s : List ℕ) (at : ℕ) (t : Bool) (e : t ≡ unfit (digits (drop at s))) where
  pub number-unfit : t ≡ true → stop 21 at ≡ number_in is_value s at
  unfolding unless number number_of
  number-unfit h = rw (← e, h)

  pub number_fit : (o : Out ℕ) → t ≡ false → o ≡ digits_in s at → o ≡ number_in is_value s at
  unfolding unless number number_of digits_in
  number_fit o h k = k ∙ rw (← e, h)
