-- Parts of a text: what stands from one place up to another.
-- Assumes nothing.
use Prim.Native.Nat.{ℕ, ◌+◌, ◌≤◌, ◌<◌}
use native.Mathlib.Nat.{add-zero, zero-add}
use native.Mathlib.Numerals.{add-one}
use native.Mathlib.Omega.{arith}
use mathlib.Core.Path.{◌≡◌, refl, sym, ap, ◌∙◌}
use mathlib.Core.Logic.{⊎_elim}
use mathlib.Core.Bool.{Bool, true, false, cond}
use mathlib.Core.List.{List, [], ◌∷◌, ◌++◌, append_assoc, append-nil}
use lib.ListN.{length, drop, get_or, length-append, length-drop, length-replicate, get_or-eq_default}
use lib.Seq.{drop-cons, drop-drop, drop-length, get_or-drop}
use borrow.Author.Tests.{eqb-true}
use Rattle.finite.specs.Lists.{All}
use Rattle.number.proofs.Encoding.{lt_or_ge}
use Rattle.condition_model.specs.Grammar.{space, spaces}
use Rattle.condition_model.specs.Reader.{byte, front, is_space, skipped}

-- bs stands from at up to p
pub record Part (s : List ℕ) (at p : ℕ) (bs : List ℕ) : Type 0 where
  pub whole : drop at s ≡ bs ++ drop p s
  pub place : p ≡ at + length bs

pub part_none : (s : List ℕ) (at : ℕ) → Part s at at []
part_none s at = record { whole = refl; place = sym (add-zero at) }

pub part-whole : (s : List ℕ) → Part s 0 (length s) s
part-whole s = record { whole = sym (rw (drop-length s) (append-nil s)); place = sym (zero-add (length s)) }

pub part_then : {s : List ℕ} {at p q : ℕ} {bs cs : List ℕ} → Part s at p bs → Part s p q cs → Part s at q (bs ++ cs)
part_then {s} {at} {p} {q} {bs} {cs} P R = record {
  whole = P.whole ∙ ap (λ (l : List ℕ). bs ++ l) R.whole ∙ sym (append_assoc bs cs (drop q s));
  place = rw length-append (omega (arith, P.place, R.place));
}

-- a part of a text ends within it, and so does one of a byte at least, wherever it begins
pub part-inside : {s : List ℕ} {at p : ℕ} {bs : List ℕ} → Part s at p bs → at ≤ length s → p ≤ length s
part-inside P l = omega (arith, P.place, simp (length-append, length-drop) at (ap length P.whole))

pub part-within : {s : List ℕ} {at p : ℕ} {bs : List ℕ} → Part s at p bs → 1 ≤ length bs → (at + 1 ≤ p) × (p ≤ length s)
part-within P l = (omega (arith, P.place), omega (arith, P.place, simp (length-append, length-drop) at (ap length P.whole)))

-- where a byte stands the text has not ended
pub inside : (s : List ℕ) (i : ℕ) → byte s i < 256 → i < length s
inside s i h =
    ⊎_elim (λ (l : i < length s). l) (λ (l : length s ≤ i). absurd (omega (arith, get_or-eq_default s 256 l))) (lt_or_ge i (length s))

pub part-byte : (s : List ℕ) (at x : ℕ) → byte s at ≡ x → x < 256 → Part s at (at + 1) (x ∷ [])
part-byte s at x e h = record { whole = drop-cons s at 256 (inside s at (omega arith)) ∙ rw (e, add-one); place = refl }

pub part-first : {s : List ℕ} {at p x : ℕ} {bs : List ℕ} → Part s at p (x ∷ bs) → byte s at ≡ x
part-first {s} {at} {p} {x} {bs} P = sym (ap (λ (i : ℕ). byte s i) (add-zero at)) ∙ sym (get_or-drop at s 0 256) ∙ ap (λ (l : List ℕ). get_or l 0 256) P.whole

-- ---- the bytes that a list begins with

front-whole : (test : ℕ → Bool) (l : List ℕ) → l ≡ front test l ++ drop (length (front test l)) l
unfolding front
front-whole test [] = refl
front-whole test (b ∷ l) = go (test b) (front-whole test l)
  where
    go : (t : Bool) → l ≡ front test l ++ drop (length (front test l)) l → b ∷ l ≡ cond t (b ∷ front test l) [] ++ drop (length (cond t (b ∷ front test l) [])) (b ∷ l)
    go true h = ap (λ (m : List ℕ). b ∷ m) h
    go false h = refl

pub front-passes : (test : ℕ → Bool) (l : List ℕ) → All (λ b. test b ≡ true) (front test l)
unfolding front
front-passes test [] = tt
front-passes test (b ∷ l) = go (test b) refl (front-passes test l)
  where
    go : (t : Bool) → test b ≡ t → All (λ b. test b ≡ true) (front test l) → All (λ b. test b ≡ true) (cond t (b ∷ front test l) [])
    go true e h = (e, h)
    go false e h = tt

pub part-front : (test : ℕ → Bool) (s : List ℕ) (at : ℕ) → Part s at (at + length (front test (drop at s))) (front test (drop at s))
part-front test s at = record { whole = front-whole test (drop at s) ∙ rw (drop-drop (length (front test (drop at s))) at s); place = refl }

spaces_are : (l : List ℕ) → All (λ b. is_space b ≡ true) l → l ≡ spaces (length l)
spaces_are [] h = refl
spaces_are (b ∷ l) h = λ i. eqb-true b space h.0 i ∷ spaces_are l h.1 i

-- how many spaces stand at a place
abbrev pub gap : List ℕ → ℕ → ℕ
gap s at = length (front is_space (drop at s))

pub part-skip : (s : List ℕ) (at : ℕ) → Part s at (skipped s at) (spaces (gap s at))
unfolding skipped
part-skip s at = record {
  whole = (part-front is_space s at).whole
      ∙ ap (λ (l : List ℕ). l ++ drop (skipped s at) s) (spaces_are (front is_space (drop at s)) (front-passes is_space (drop at s)));
  place = rw length-replicate;
}
