-- Two rows that exchange bits by one digit.
-- Assumes nothing.
use Prim.Native.Nat.{ℕ, ◌+◌, ◌-◌, ◌*◌, ◌/◌, ◌%◌, ◌^◌, ◌≤◌, ◌<◌}
use native.Mathlib.Omega.{arith}
use native.Mathlib.Decide.{dec_le}
use mathlib.Core.Path.{◌≡◌, refl, sym, ap, ap₂, ◌∙◌, subst}
use mathlib.Core.Bool.{Bool, true, false, not, ◌&&◌}
use mathlib.Core.List.{List}
use lib.Bits.{bit_and, bit_xor}
use lib.ListN.{length, get_or, set, length-set}
use lib.Pow.{pow_pos}
use borrow.Author.Tests.{not-false}
use lib.Seq.{get_or-set_same, get_or-set_other}
use Rattle.finite.proofs.Tests.{and-true, and-false}
use Rattle.bits.specs.Bit.{bit, width}
use Rattle.bits.proofs.Bits.{bit-and}
use Rattle.rows.proofs.SetLaws.{other, bit-xor}
use Rattle.model.specs.Limits.{most_events}
use Rattle.columns.specs.Swaps.{digits, insert, omit, Mask, Swapped}
use Rattle.columns.proofs.Digits.{omit-insert, digit_insert, insert-true, digit_flips, insert-lt, place-lt}
use Rattle.columns.proofs.Shifts.{bit_shr, bit_shl, bit_shl_low}

other_false : (x : Bool) → other x false ≡ x
other_false true = refl
other_false false = refl

-- x, changed where it is not y, is y
other_back : (x y : Bool) → other x (other x y) ≡ y
other_back true true = refl
other_back true false = refl
other_back false y = refl

other_forth : (x y : Bool) → other y (other x y) ≡ x
other_forth true true = refl
other_forth true false = refl
other_forth false true = refl
other_forth false false = refl

-- the bits in which two rows have to change, at the places with digit 0, where j is what a 1 as the digit stands for; and the same at the places with digit 1
abbrev exchange : (j low high m : ℕ) → ℕ
exchange j low high m = bit_and (bit_xor (low / 2 ^ j) high) m

abbrev lifted : (j low high m : ℕ) → ℕ
lifted j low high m = exchange j low high m * 2 ^ j % 2 ^ width

module _ (s low high m : ℕ) (hs : s < digits) (hm : Mask s m) where
  abbrev moved : ℕ
  moved = exchange (2 ^ s) low high m

  abbrev shifted : ℕ
  shifted = lifted (2 ^ s) low high m

  moved_none : (e : ℕ) → e < most_events → bit e s ≡ true → bit moved e ≡ false
  moved_none e l h =
      bit-and (bit_xor (low / 2 ^ 2 ^ s) high) m e ∙ ap (λ t. bit (bit_xor (low / 2 ^ 2 ^ s) high) e && t) (hm.clear e l ∙ ap not h)
      ∙ and-false (bit (bit_xor (low / 2 ^ 2 ^ s) high) e)

  module _ (u : ℕ) (hu : u < most_events / 2) where
    below : (b : Bool) → insert s b u < most_events
    below b = insert-lt s (digits - 1) b u (omega arith) hu

    moved_here : bit moved (insert s false u) ≡ other (bit low (insert s true u)) (bit high (insert s false u))
    moved_here =
        let e = insert s false u in
        bit-and (bit_xor (low / 2 ^ 2 ^ s) high) m e
        ∙ ap₂ ◌&&◌
        (bit-xor (low / 2 ^ 2 ^ s) high e ∙ ap (λ t. other t (bit high e)) (bit_shr low (2 ^ s) e ∙ ap (bit low) (sym (insert-true s u))))
        (hm.clear e (below false) ∙ ap not (digit_insert s false u))
        ∙ and-true (other (bit low (insert s true u)) (bit high e))

    -- nothing is shifted to a place with digit 0
    shifted_none : bit shifted (insert s false u) ≡ false
    shifted_none = by (dec_le (2 ^ s) (insert s false u))
      where
        by : Dec (2 ^ s ≤ insert s false u) → bit shifted (insert s false u) ≡ false
        by (yes l) =
            let f : ℕ = insert s false u - 2 ^ s in
            let z : insert s false u ≡ f + 2 ^ s = omega arith in
            let h = below false in
            ap (bit shifted) z ∙ bit_shl moved (2 ^ s) width f (omega arith)
            ∙ moved_none f (omega arith) (not-false (bit f s) (sym (digit_flips s f) ∙ ap (λ (x : ℕ). bit x s) (sym z) ∙ digit_insert s false u))
        by (no d) = let h = place-lt s hs in bit_shl_low moved (2 ^ s) width (insert s false u) (omega arith) (omega arith)

    -- what each row then holds
    low_false : bit (bit_xor low shifted) (insert s false u) ≡ bit low (insert s false u)
    low_false = bit-xor low shifted (insert s false u) ∙ ap (other (bit low (insert s false u))) shifted_none ∙ other_false _

    low_true : bit (bit_xor low shifted) (insert s true u) ≡ bit high (insert s false u)
    low_true =
        bit-xor low shifted (insert s true u)
        ∙ ap (other (bit low (insert s true u)))
        (ap (bit shifted) (insert-true s u)
        ∙ bit_shl moved (2 ^ s) width (insert s false u) (subst (λ (x : ℕ). x < most_events) (insert-true s u) (below true))
        ∙ moved_here)
        ∙ other_back (bit low (insert s true u)) (bit high (insert s false u))

    high_false : bit (bit_xor high moved) (insert s false u) ≡ bit low (insert s true u)
    high_false =
        bit-xor high moved (insert s false u) ∙ ap (other (bit high (insert s false u))) moved_here
        ∙ other_forth (bit low (insert s true u)) (bit high (insert s false u))

    high_true : bit (bit_xor high moved) (insert s true u) ≡ bit high (insert s true u)
    high_true =
        bit-xor high moved (insert s true u)
        ∙ ap (other (bit high (insert s true u))) (moved_none (insert s true u) (below true) (digit_insert s true u)) ∙ other_false _

-- the rows of number t but for digit s, and what is stored there
module _ (s t m : ℕ) (old : List ℕ) where
  abbrev row : Bool → ℕ
  row b = get_or old (insert s b t) 0

  abbrev new_low : ℕ
  new_low = bit_xor (row false) (lifted (2 ^ s) (row false) (row true) m)

  abbrev new_high : ℕ
  new_high = bit_xor (row true) (exchange (2 ^ s) (row false) (row true) m)

  abbrev half_stored : List ℕ
  half_stored = set old (insert s false t) new_low

  abbrev stored : List ℕ
  stored = set half_stored (insert s true t) new_high

  module _ (hs : s < digits) (ht : t < most_events / 2) (long : length old ≡ most_events) (hm : Mask s m) where
    room : (b : Bool) → insert s b t < length old
    room b = subst (λ (z : ℕ). insert s b t < z) (sym long) (insert-lt s (digits - 1) b t (omega arith) ht)

    at_low : get_or stored (insert s false t) 0 ≡ new_low
    at_low =
        get_or-set_other half_stored (insert s true t) (insert s false t) new_high 0 (λ z. let p = pow_pos s in let q = insert-true s t in omega arith)
        ∙ get_or-set_same old (insert s false t) new_low 0 (room false)

    at_high : get_or stored (insert s true t) 0 ≡ new_high
    at_high =
        get_or-set_same half_stored (insert s true t) new_high 0
        (subst (λ (z : ℕ). insert s true t < z) (sym (length-set old (insert s false t) new_low)) (room true))

    swapped : (b c : Bool) (u : ℕ) → u < most_events / 2 → bit (get_or stored (insert s b t) 0) (insert s c u) ≡ bit (row c) (insert s b u)
    swapped false false u l = ap (λ (v : ℕ). bit v (insert s false u)) at_low ∙ low_false s (row false) (row true) m hs hm u l
    swapped false true u l = ap (λ (v : ℕ). bit v (insert s true u)) at_low ∙ low_true s (row false) (row true) m hs hm u l
    swapped true false u l = ap (λ (v : ℕ). bit v (insert s false u)) at_high ∙ high_false s (row false) (row true) m hs hm u l
    swapped true true u l = ap (λ (v : ℕ). bit v (insert s true u)) at_high ∙ high_true s (row false) (row true) m hs hm u l

    exchanged_at : Swapped s t (t + 1) old stored
    exchanged_at = record {
      long = length-set half_stored (insert s true t) new_high ∙ length-set old (insert s false t) new_low;
      swap = λ x l g. subst (λ (y : ℕ). (b c : Bool) (u : ℕ) → u < most_events / 2 → bit (get_or stored (insert s b y) 0) (insert s c u) ≡ bit (get_or old (insert s c y) 0) (insert s b u)) (let z : t ≡ x = omega arith in z) swapped;
      rest = λ e d.
          get_or-set_other half_stored (insert s true t) e new_high 0 (λ z. let q = ap (omit s) z ∙ omit-insert s true t in d (omega arith) (omega arith))
          ∙ get_or-set_other old (insert s false t) e new_low 0 (λ z. let q = ap (omit s) z ∙ omit-insert s false t in d (omega arith) (omega arith));
    }

-- as the code stores it
pub exchanged : (s t m i j : ℕ) (old : List ℕ) → s < digits → t < most_events / 2 → length old ≡ most_events → Mask s m → i ≡ insert s false t → j ≡ 2 ^ s
    → Swapped s t (t + 1) old
    (set (set old i (bit_xor (get_or old i 0) (lifted j (get_or old i 0) (get_or old (i + j) 0) m))) (i + j) (bit_xor (get_or old (i + j) 0) (exchange j (get_or old i 0) (get_or old (i + j) 0) m)))
exchanged s t m i j old hs ht long hm ei ej = rw (ei, ej, ← insert-true s t) (exchanged_at s t m old hs ht long hm)
