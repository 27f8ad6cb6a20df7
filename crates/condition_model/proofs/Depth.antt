-- 02 (x): "nested up to 16 deep counting `~` and brackets (17 is 22)": 16 levels are read and more are refused, in every mixture of `~` and brackets.
-- Assumes nothing.
use Prim.Native.Nat.{ℕ, zero, suc, ◌+◌, ◌*◌, ◌≤◌, ◌<◌}
use native.Mathlib.Nat.{add-zero, zero-add}
use native.Mathlib.Omega.{arith}
use mathlib.Core.Path.{◌≡◌, refl, ◌∙◌}
use mathlib.Core.Bool.{Bool, true, false}
use mathlib.Core.List.{List, [], ◌∷◌, ◌++◌}
use lib.ListN.{length, length-append}
use Rattle.number.specs.Reader.{stop, next}
use Rattle.condition_model.specs.Grammar.{most_text, most_depth, Condition.a_term, Term.a_factor, opening, closing, tilde, tokens_c, tokens_f, Padded, Ranges, FitsC, FitsF}
use Rattle.condition_model.specs.Reader.{skipped, condition_by, factor_by, whole_by, read_text}
use Rattle.condition_model.specs.Mixtures.{mixed, text}
use Rattle.condition_model.proofs.Decimal.{decimal_low}
use Rattle.condition_model.proofs.Parts.{Part, part_none, part-whole, part-first}
use Rattle.condition_model.proofs.Outcomes.{padded_then, padded_one}
use Rattle.condition_model.proofs.ReadBack.{split, reads_spaces, begins_C}
use Rattle.condition_model.proofs.Text.{accepted, by_length}

mixed_padded : (l : List Bool) → Padded (tokens_f (mixed l)) (text l)
unfolding mixed text tokens_f
mixed_padded [] = rw (decimal_low 0 (omega arith), decimal_low 1 (omega arith)) (0, _, refl, (0, _, refl, (0, _, refl, refl)))
mixed_padded (true ∷ l) = (0, text l, refl, mixed_padded l)
mixed_padded (false ∷ l) = (0, _, refl, padded_then (tokens_f (mixed l)) ((closing ∷ []) ∷ []) (text l) (closing ∷ []) (mixed_padded l) (padded_one (closing ∷ []) 0))

text-long : (l : List Bool) → length (text l) ≤ 2 * length l + 4
unfolding text
text-long [] = omega arith
text-long (true ∷ l) = omega (arith, text-long l)
text-long (false ∷ l) = rw length-append (omega (arith, text-long l))

module _ (w : Ranges) where
  module _ (address : w.address 0 ≡ true) (value : w.value 1 ≡ true) where
    mixed-fits : (l : List Bool) (n : ℕ) → length l ≤ n → FitsF w n (mixed l)
    unfolding mixed FitsF
    mixed-fits [] n h = (address, value)
    mixed-fits (b ∷ l) zero h = absurd (omega arith)
    mixed-fits (true ∷ l) (suc n) h = mixed-fits l n (omega arith)
    mixed-fits (false ∷ l) (suc n) h = mixed-fits l n (omega arith)

    pub mixtures_read : (l : List Bool) → length l ≤ most_depth → read_text w (text l) ≡ next (a_term (a_factor (mixed l))) (length (text l))
    unfolding tokens_c FitsC
    mixtures_read l h =
        accepted w (text l) (a_term (a_factor (mixed l))) (record {
          short = omega (arith, text-long l);
          spells = record { before = 0; rest = text l; text = refl; tokens = mixed_padded l };
          fits = mixed-fits l most_depth h;
        })

  module _ (s : List ℕ) where
    -- no space stands before a mixture
    unspaced : (l : List Bool) (at p : ℕ) → Part s at p (text l) → skipped s at ≡ at
    unfolding tokens_c
    unspaced l at p P = reads_spaces 0 (part_none s at) (begins_C (a_term (a_factor (mixed l))) (mixed_padded l) P)

    -- a condition is refused as its first factor is
    passed_on : (f n at x p : ℕ) → factor_by f w n s at ≡ stop x p → condition_by (suc (suc f)) w n s at ≡ stop x p
    unfolding condition_by
    passed_on f n at x p h = rw h

    -- where n levels are left and more stand there: 22 at the first that is too deep, n places further
    factor_refused : (l : List Bool) (n f at p : ℕ) → n < length l → 3 * n + 1 ≤ f → Part s at p (text l) → factor_by f w n s at ≡ stop 22 (at + n)
    unfolding text condition_by
    factor_refused [] n f at p h k P = absurd (omega arith)
    factor_refused (b ∷ l) n zero at p h k P = absurd (omega arith)
    factor_refused (true ∷ l) zero (suc f) at p h k P = rw (part-first P, add-zero)
    factor_refused (false ∷ l) zero (suc f) at p h k P = rw (part-first P, part-first P, add-zero)
    factor_refused (true ∷ l) (suc n) (suc f) at p h k P =
        let (A, B) = split (tilde ∷ []) (text l) P in
        let place : at + 1 + n ≡ at + suc n = omega arith in
        rw (part-first P, unspaced l (at + 1) p B, factor_refused l n f (at + 1) p (omega arith) (omega arith) B, place)
    factor_refused (false ∷ l) (suc n) (suc zero) at p h k P = absurd (omega arith)
    factor_refused (false ∷ l) (suc n) (suc (suc zero)) at p h k P = absurd (omega arith)
    factor_refused (false ∷ l) (suc n) (suc (suc (suc f))) at p h k P =
        let (A, B) = split (opening ∷ []) (text l ++ (closing ∷ [])) P in
        let (C, D) = split (text l) (closing ∷ []) B in
        let place : at + 1 + n ≡ at + suc n = omega arith in
        rw (part-first P, part-first P, unspaced l (at + 1) _ C, factor_refused l n f (at + 1) _ (omega arith) (omega arith) C, place)

  whole-refused : (l : List Bool) (n f : ℕ) → n < length l → 3 * n + 1 ≤ f → whole_by (suc (suc f)) w n (text l) 0 ≡ stop 22 n
  unfolding whole_by
  whole-refused l n f h k =
      let P = part-whole (text l) in
      rw (unspaced (text l) l 0 _ P, passed_on (text l) f n 0 22 (0 + n) (factor_refused (text l) l n f 0 _ h k P), zero-add)

  pub mixtures_refused : (l : List Bool) → most_depth < length l → length (text l) ≤ most_text → read_text w (text l) ≡ stop 22 most_depth
  mixtures_refused l h m = by_length w (text l) m ∙ whole-refused l most_depth (3 * most_text + 1) h (omega arith)
