-- What holds at each turn of a loop that unites sets, of one that fills a list, and of one that puts each dependency where it
-- goes from.
-- Assumes nothing.
use Prim.Native.Nat.{ℕ, ◌+◌, ◌^◌, ◌≤◌, ◌<◌}
use native.Mathlib.Nat.{le_antisymm}
use native.Mathlib.Numerals.{add-one}
use native.Mathlib.Omega.{arith}
use mathlib.Core.Path.{◌≡◌, sym, ap, ap₂, ◌∙◌, subst}
use mathlib.Core.Bool.{Bool, ◌&&◌, ◌||◌}
use mathlib.Core.List.{List}
use lib.Dec.{eqb}
use lib.ListN.{length, get_or, set, replicate, length-set, length-replicate, get_or-replicate}
use lib.Bits.{bit_or}
use lib.Seq.{get_or-set_same, get_or-set_other}
use borrow.Author.Tests.{eq-eqb, ne_eqb}
use native.Mathlib.Decide.{ℕ_discrete}
use Rattle.finite.specs.Tests.{some}
use Rattle.finite.proofs.Tests.{some_empty, or_false, eqb_sym}
use Rattle.bits.specs.Bit.{bit}
use Rattle.bits.proofs.Bits.{bit-zero, bit-or, bit_with}
use Rattle.model.specs.Limits.{most_events}
use Rattle.rows.specs.Sets.{Set, Sets, depends_in}

-- the set is what the first i of the parts hold
pub record United (n : ℕ) (f : ℕ → ℕ → Bool) (i acc : ℕ) : Type 0 where
  pub within : i ≤ n
  pub unite : (e : ℕ) → bit acc e ≡ some i (λ j. f j e)

some_more : (i : ℕ) (p : ℕ → Bool) → some (i + 1) p ≡ (some i p || p i)
unfolding some
some_more i p = ap (λ (m : ℕ). some m p) (add-one i)

module _ {n : ℕ} {f : ℕ → ℕ → Bool} where
  pub empty : United n f 0 0
  empty = record { within = omega arith; unite = λ e. bit-zero e ∙ sym (some_empty (λ j. f j e)) }

  pub joins : {i acc part : ℕ} → United n f i acc → i < n → Set part (f i) → United n f (i + 1) (bit_or acc part)
  joins {i} {acc} {part} h l s = record {
    within = omega arith;
    unite = λ e. bit-or acc part e ∙ ap₂ ◌||◌ (h.unite e) (s.has e) ∙ sym (some_more i (λ j. f j e));
  }

  pub united : {i acc : ℕ} → United n f i acc → n ≤ i → Set acc (λ e. some n (λ j. f j e))
  united {i} {acc} h g = record { has = λ e. h.unite e ∙ ap (λ (m : ℕ). some m (λ j. f j e)) (le_antisymm h.within g) }

-- the first i of n places are filled
pub record Filled (n : ℕ) (f : ℕ → ℕ → Bool) (i : ℕ) (out : List ℕ) : Type 0 where
  pub within : i ≤ n
  pub room : n ≤ length out
  pub fill : Sets i out f

module _ {n : ℕ} {f : ℕ → ℕ → Bool} where
  pub unfilled : {out : List ℕ} → n ≤ length out → Filled n f 0 out
  unfilled h = record { within = omega arith; room = h; fill = record { has = λ x l. absurd (omega arith) } }

  pub fills : {i v : ℕ} {out : List ℕ} → Filled n f i out → i < n → Set v (f i) → Filled n f (i + 1) (set out i v)
  fills {i} {v} {out} h l s = record {
    within = omega arith;
    room = subst (λ (m : ℕ). n ≤ m) (sym (length-set out i v)) h.room;
    fill = record { has = λ x lx e. here_or_before x lx e (ℕ_discrete x i) };
  }
    where
      here_or_before : (x : ℕ) → x < i + 1 → (e : ℕ) → Dec (x ≡ i) → bit (get_or (set out i v) x 0) e ≡ f x e
      here_or_before x lx e (yes same) =
          subst (λ (j : ℕ). bit (get_or (set out i v) j 0) e ≡ f j e) (sym same)
          (ap (λ (y : ℕ). bit y e) (get_or-set_same out i v 0 (omega (arith, h.room))) ∙ s.has e)
      here_or_before x lx e (no other) =
          ap (λ (y : ℕ). bit y e) (get_or-set_other out i x v 0 other) ∙ h.fill.has x (omega arith) e

  pub filled : {i : ℕ} {out : List ℕ} → Filled n f i out → n ≤ i → Sets n out f
  filled {i} {out} h g = subst (λ (m : ℕ). Sets m out f) (le_antisymm h.within g) h.fill

-- by event, the sets hold what the first i of n dependencies go to
pub record Linked (froms tos : List ℕ) (n i : ℕ) (out : List ℕ) : Type 0 where
  pub within : i ≤ n
  pub room : length out ≡ most_events
  pub link : Sets most_events out (depends_in froms tos i)

module _ {froms tos : List ℕ} {n : ℕ} where
  pub unlinked : Linked froms tos n 0 (replicate most_events 0)
  unlinked = record {
    within = omega arith;
    room = length-replicate {A = ℕ} most_events 0;
    link = record { has = λ x l e. ap (λ (y : ℕ). bit y e) (get_or-replicate {A = ℕ} most_events x 0 0 l) ∙ bit-zero e ∙ sym (some_empty _) };
  }

  pub links : {i a b v : ℕ} {out : List ℕ} → Linked froms tos n i out → i < n → a ≡ get_or froms i 0 → b ≡ get_or tos i 0 → a < most_events
      → v ≡ bit_or (get_or out a 0) (2 ^ b) → Linked froms tos n (i + 1) (set out a v)
  links {i} {a} {b} {v} {out} h l ea eb la ev = record {
    within = omega arith;
    room = length-set out a v ∙ h.room;
    link = record { has = λ x lx e. here_or_other x lx e (ℕ_discrete x a) ∙ onward x e };
  }
    where
      onward : (x e : ℕ) → (depends_in froms tos i x e || (eqb a x && eqb b e)) ≡ depends_in froms tos (i + 1) x e
      onward x e =
          ap₂ (λ (s t : ℕ). depends_in froms tos i x e || (eqb s x && eqb t e)) ea eb
          ∙ sym (some_more i (λ j. eqb (get_or froms j 0) x && eqb (get_or tos j 0) e))

      here_or_other : (x : ℕ) → x < most_events → (e : ℕ) → Dec (x ≡ a) → bit (get_or (set out a v) x 0) e ≡ (depends_in froms tos i x e || (eqb a x && eqb b e))
      here_or_other x lx e (yes same) =
          ap (λ (y : ℕ). bit y e) (ap (λ (y : ℕ). get_or (set out a v) y 0) same ∙ get_or-set_same out a v 0 (omega (arith, h.room)) ∙ ev)
          ∙ bit_with (get_or out a 0) b e
          ∙ ap₂ ◌||◌ (ap (λ (y : ℕ). bit (get_or out y 0) e) (sym same) ∙ h.link.has x lx e) (eqb_sym e b ∙ ap (λ t. t && eqb b e) (sym (eq-eqb a x (sym same))))
      here_or_other x lx e (no other) =
          ap (λ (y : ℕ). bit y e) (get_or-set_other out a x v 0 other) ∙ h.link.has x lx e
          ∙ sym (or_false (depends_in froms tos i x e)) ∙ ap (λ t. depends_in froms tos i x e || (t && eqb b e)) (sym (ne_eqb a x (λ y. other (sym y))))

  pub linked : {i : ℕ} {out : List ℕ} → Linked froms tos n i out → n ≤ i → Sets most_events out (depends_in froms tos n)
  linked {i} {out} h g = subst (λ (m : ℕ). Sets most_events out (depends_in froms tos m)) (le_antisymm h.within g) h.link
