-- The whole text: what is accepted, what is refused, and with which number. Assumes nothing.
use Prim.Native.Nat.{ℕ, zero, suc, ◌+◌, ◌*◌, ◌≤◌, ◌<◌}
use native.Mathlib.Nat.{le_refl, zero-add}
use native.Mathlib.Omega.{arith}
use mathlib.Core.Path.{◌≡◌, refl, sym, ap, ◌∙◌, subst}
use mathlib.Core.Logic.{◌⊎◌, inl, inr, ⊎_elim}
use mathlib.Core.Bool.{Bool, true, false, cond}
use mathlib.Core.List.{List, [], ◌∷◌, ◌++◌, append_assoc, append-nil}
use lib.Dec.{eqb, ltb}
use lib.ListN.{length, take, drop, length-append, get_or-eq_default}
use lib.Seq.{take_at, drop-length}
use borrow.Author.Tests.{eqb-true, eqb-false, eq-eqb, ne_eqb, lt-ltb, le-ltb, ltb-false}
use Rattle.number.specs.Number.{Bytes}
use Rattle.number.specs.Reader.{Out, stop, next, onward}
use Rattle.condition_model.specs.Grammar.{most_text, most_depth, Condition, Condition.a_term, Condition.or_else, Term, Term.a_factor, Term.and_also, Factor, Factor.negation, Factor.bracketed, Factor.memory_is, Factor.load_is, opening, closing, slash, backslash, tilde, spaces, tokens_c, tokens_t, tokens_f, Padded, Spells, Ranges, free, FitsC, FitsT, FitsF, Accepted}
use Rattle.condition_model.specs.Reader.{byte, skipped, choose, condition_by, end, whole_by, enough, read_text}
use Rattle.condition_model.specs.Faults.{Told, NoLoad, Completed, Alike, AlikeAt}
use Rattle.condition_model.proofs.Parts.{Part, inside, part-whole, part-inside, part_then, part-skip, gap}
use Rattle.condition_model.proofs.Outcomes.{Usable, Fresh, Cut, Runs, SpeltC, outcome_C}
use Rattle.condition_model.proofs.ReadBack.{split, padded_split, padded_long, padded_joined, reads_spaces, begins_C, EndsC, reads_C}
use Rattle.condition_model.proofs.Follows.{Follows, Freer, Levels, skip-alike, follows_C, same_freer, free_freer, same_levels}
use Rattle.condition_model.proofs.Progress.{Within, condition-within}

-- ---- what the grammar spells is read

ends_text : (s : List ℕ) → EndsC (byte s (length s))
ends_text s =
    rw (get_or-eq_default s 256 (le_refl (length s)))
    (record { ends = record { ends = record { no_space = refl; no_digit = refl }; no_and = refl }; no_or = refl })

pub whole_reads : (w : Ranges) (s : List ℕ) (c : Condition) (n f : ℕ) → Spells s c → FitsC w n c → 3 * length s + 3 ≤ f → whole_by f w n s 0 ≡ next c (length s)
unfolding whole_by end
whole_reads w s c n f S F l =
    let (A, B) = split (spaces S.before) S.rest (subst (Part s 0 (length s)) S.text (part-whole s)) in
    let long : length s ≡ length (spaces S.before) + length S.rest = ap length S.text ∙ length-append (spaces S.before) S.rest in
    rw (
      reads_spaces S.before A (begins_C c S.tokens B),
      reads_C w s c n f (0 + length (spaces S.before)) (length s) S.rest F B S.tokens (ends_text s) (omega arith),
      eq-eqb (length s) (length s) refl,
    )

pub accepted : (w : Ranges) (s : List ℕ) (c : Condition) → Accepted w s c → read_text w s ≡ next c (length s)
unfolding read_text
accepted w s c k = let l = k.short in rw (le-ltb most_text (length s) l) (whole_reads w s c most_depth enough k.spells k.fits (omega arith))

-- 02 (x): "more is 3 at 512, before other text faults"
pub too-long : (w : Ranges) (s : List ℕ) → most_text < length s → read_text w s ≡ stop 3 most_text
unfolding read_text
too-long w s l = rw (lt-ltb most_text (length s) l)

pub by_length : (w : Ranges) (s : List ℕ) → length s ≤ most_text → read_text w s ≡ whole_by enough w most_depth s 0
unfolding read_text
by_length w s l = rw (le-ltb most_text (length s) l)

-- ---- what is read is spelled, and what stands before a fault can be completed

-- bytes that spell the condition, which keeps the limits
record SpeltText (w : Ranges) (n : ℕ) (c : Condition) (bs : List ℕ) : Type 0 where
  spells : Spells bs c
  fits : FitsC w n c

spelt_text : (w : Ranges) (n g : ℕ) (c : Condition) (bs : List ℕ) → SpeltC w n c bs → SpeltText w n c (spaces g ++ bs)
spelt_text w n g c bs S = record { spells = record { before = g; rest = bs; text = refl; tokens = S.padded }; fits = S.fit }

-- nothing but what stands before p
before : {s : List ℕ} {p : ℕ} {bs : List ℕ} → Part s 0 p bs → take p s ≡ bs
before {s} {p} {bs} P = ap (take p) P.whole ∙ take_at bs (drop p s) p (sym (zero-add _) ∙ sym P.place)

-- what stands before p can be completed
record Begun (w : Ranges) (s : List ℕ) (n p : ℕ) : Type 0 where
  inside : p ≤ length s
  fresh : Fresh (λ c rest. SpeltText w n c (take p s ++ rest)) (5 + n)

-- what an answer for the whole text means
abbrev Meaning : Ranges → List ℕ → (n : ℕ) → Out Condition → Type 0
Meaning w s n (next c p) = (p ≡ length s) × SpeltText w n c s
Meaning w s n (stop x p) = Told w s x p × (Begun w s n p ⊎ NoLoad w s p)

module _ (w : Ranges) (s : List ℕ) (U : Usable w) (n : ℕ) where
  begun : {p : ℕ} {bs : List ℕ} → Part s (skipped s 0) p bs → Fresh (λ c rest. SpeltC w n c (bs ++ rest)) (5 + n) → Begun w s n p
  begun {p} {bs} P F =
      let whole = part_then (part-skip s 0) P in
      record {
        inside = part-inside whole (omega arith);
        fresh = record {
          a = F.a;
          rest = F.rest;
          short = F.short;
          holds = rw (before whole, append_assoc (spaces (gap s 0)) bs F.rest) (spelt_text w n (gap s 0) F.a (bs ++ F.rest) F.holds);
        };
      }

  -- by what the condition's reader answers, behind the spaces in front
  by_condition : (o : Out Condition) → Runs w s (SpeltC w n) (5 + n) (skipped s 0) o → Meaning w s n (onward (λ c p. onward (λ _ q. next c q) (end s p)) o)
  unfolding end
  by_condition (stop x p) r =
      (r.is.0, ⊎_elim (λ (C : Cut (SpeltC w n) (5 + n) s (skipped s 0) p). inl (begun C.part C.fresh)) (λ (z : NoLoad w s p). inr z) r.is.1)
  by_condition (next c p) r = go (eqb p (length s)) refl
    where
      go : (b : Bool) → eqb p (length s) ≡ b → Meaning w s n (onward (λ _ q. next c q) (cond b (next (tt {0}) p) (stop 21 p)))
      go true e =
          let same : p ≡ length s = eqb-true p (length s) e in
          let whole : s ≡ spaces (gap s 0) ++ r.is.bs = (part_then (part-skip s 0) r.is.part).whole ∙ rw (same, drop-length s) (append-nil _) in
          (same, subst (SpeltText w n c) (sym whole) (spelt_text w n (gap s 0) c r.is.bs r.is.holds))
      go false e = (inl refl, inl (begun r.is.part (record { a = c; rest = []; short = omega arith; holds = rw (append-nil r.is.bs) r.is.holds })))

  meaning : (f : ℕ) → Meaning w s n (whole_by f w n s 0)
  unfolding whole_by
  meaning f = by_condition (condition_by f w n s (skipped s 0)) (outcome_C w s U f n (skipped s 0))

-- what is read is exactly what the grammar spells
pub accepted_only : (w : Ranges) (s : List ℕ) (U : Usable w) (c : Condition) (p : ℕ) → read_text w s ≡ next c p → (p ≡ length s) × Accepted w s c
unfolding read_text
accepted_only w s U c p = go (ltb most_text (length s)) refl
  where
    go : (b : Bool) → ltb most_text (length s) ≡ b → choose b (λ s at. stop 3 most_text) (whole_by enough w most_depth) s 0 ≡ next c p → (p ≡ length s) × Accepted w s c
    go true e h = let z : ◌≡◌ {A = ℕ} 0 1 = cc in absurd (omega arith)
    go false e h =
        let M : Meaning w s most_depth (next c p) = subst (Meaning w s most_depth) h (meaning w s U most_depth enough) in
        (M.0, record { short = ltb-false most_text (length s) e; spells = M.1.spells; fits = M.1.fits })

-- what stands before a fault can be completed, unless an `e` stands there that can name no load; and the refusal tells what it tells
pub completed : (w : Ranges) (s : List ℕ) (U : Usable w) (x p : ℕ) → length s ≤ most_text → read_text w s ≡ stop x p
    → Told w s x p × (Completed w s p (5 + most_depth) ⊎ NoLoad w s p)
completed w s U x p l h =
    let M : Meaning w s most_depth (stop x p) = subst (Meaning w s most_depth) (sym (by_length w s l) ∙ h) (meaning w s U most_depth enough) in (
      M.0,
      ⊎_elim (λ (B : Begun w s most_depth p).
          let F = B.fresh in
          inl (record { inside = B.inside; rest = F.rest; short = F.short; condition = F.a; spells = F.holds.spells; fits = F.holds.fits }))
          (λ (z : NoLoad w s p). inr z) M.1,
    )

-- ---- texts that are alike up to a fault

bytes_get : (s : List ℕ) → Bytes s → (i : ℕ) → i < length s → byte s i < 256
bytes_get [] h i l = absurd (omega arith)
bytes_get (b ∷ s) h zero l = h.0
bytes_get (b ∷ s) h (suc i) l = bytes_get s h.1 i (omega arith)

-- the second reader allows more than the first, and Kept are the refusals that are no matter of that
module _ (Kept : ℕ → Type 0) (w w' : Ranges) (W : Freer Kept w w') (n m f : ℕ) (levels : Levels Kept n m) (s t : List ℕ) (bytes : Bytes s) where
  -- no text that is alike up to a fault is read
  whole-alike : (x p : ℕ) → Kept x → whole_by f w n s 0 ≡ stop x p → AlikeAt s t p → whole_by f w' m t 0 ≡ stop x p
  unfolding whole_by end
  whole-alike x p kept h A = go (condition_by f w n s (skipped s 0)) (follows_C w w' W f n m (skipped s 0) levels) (condition-within s w f n (skipped s 0)) h
    where
      go : (o : Out Condition) → Follows Kept s t (skipped s 0) o (condition_by f w' m t (skipped s 0)) → Within (skipped s 0 + 1) (length s) o
          → onward (λ c p. onward (λ _ q. next c q) (end s p)) o ≡ stop x p → onward (λ c p. onward (λ _ q. next c q) (end t p)) (condition_by f w' m t (skipped t 0)) ≡ stop x p
      go (stop y q) L r k =
          let place : q ≡ p = cc in
          let number : y ≡ x = cc in
          let A' : AlikeAt s t q = rw place A in
          rw (skip-alike s t 0 q A'.here L.is.0, L.is.1 (rw number kept) A') k
      go (next c q) L r k = ended (eqb q (length s)) refl k
        where
          ended : (b : Bool) → eqb q (length s) ≡ b → onward (λ _ q. next c q) (cond b (next (tt {0}) q) (stop 21 q)) ≡ stop x p
              → onward (λ c p. onward (λ _ q. next c q) (end t p)) (condition_by f w' m t (skipped t 0)) ≡ stop x p
          ended true g k = let z : ◌≡◌ {A = ℕ} 0 1 = cc in absurd (omega arith)
          ended false g k =
              let place : q ≡ p = cc in
              let A' : Alike s t q = rw place A.here in
              let l : q < length s = omega (arith, r.1, eqb-false q (length s) g) in
              let m : q < length t = inside t q (omega (arith, A' q (le_refl q), bytes_get s bytes q l)) in
              rw (skip-alike s t 0 q A' L.is.0, L.is.1 A', ne_eqb q (length t) (λ z. omega arith)) k

-- 02 (x): "The leftmost fault is the answer": a text that is alike up to a fault is refused alike, whatever stands further to the right
pub leftmost : (w : Ranges) (s t : List ℕ) (x p : ℕ) → Bytes s → length s ≤ most_text → length t ≤ most_text → read_text w s ≡ stop x p → AlikeAt s t p → read_text w t ≡ stop x p
leftmost w s t x p bytes l m h A =
    by_length w t m
    ∙ whole-alike (λ x. Unit {0}) w w (same_freer _ w) most_depth most_depth enough (same_levels _ most_depth) s t bytes x p tt (sym (by_length w s l) ∙ h) A

-- ---- the grammar alone

-- a condition is no deeper than its text is long, and every number is allowed
mutual
  unfolding FitsC tokens_c

  free_C : (c : Condition) (n : ℕ) (bs : List ℕ) → Padded (tokens_c c) bs → length bs ≤ n → FitsC free n c
  free_C (a_term t) n bs P l = free-T t n bs P l
  free_C (or_else t c) n bs P l =
      let (cs, ds, L, R, short) = padded_joined backslash slash (tokens_t t) (tokens_c c) bs P in (free-T t n cs L (omega arith), free_C c n ds R (omega arith))

  free-T : (t : Term) (n : ℕ) (bs : List ℕ) → Padded (tokens_t t) bs → length bs ≤ n → FitsT free n t
  free-T (a_factor f) n bs P l = free_F f n bs P l
  free-T (and_also f t) n bs P l =
      let (cs, ds, L, R, short) = padded_joined slash backslash (tokens_f f) (tokens_t t) bs P in (free_F f n cs L (omega arith), free-T t n ds R (omega arith))

  free_F : (f : Factor) (n : ℕ) (bs : List ℕ) → Padded (tokens_f f) bs → length bs ≤ n → FitsF free n f
  free_F (negation f) zero bs P l = absurd (omega (arith, padded_long (tilde ∷ []) (tokens_f f) bs P))
  free_F (negation f) (suc n) bs P l = free_F f n P.1 P.3 (omega (arith, padded_long (tilde ∷ []) (tokens_f f) bs P))
  free_F (bracketed c) zero bs P l = absurd (omega (arith, padded_long (opening ∷ []) (tokens_c c ++ ((closing ∷ []) ∷ [])) bs P))
  free_F (bracketed c) (suc n) bs P l =
      let (bs₁, bs₂, e, L, R) = padded_split (tokens_c c) ((closing ∷ []) ∷ []) P.1 P.3 in
      let long : length P.1 ≡ length bs₁ + length bs₂ = ap length e ∙ length-append bs₁ bs₂ in
      free_C c n bs₁ L (omega (arith, padded_long (opening ∷ []) (tokens_c c ++ ((closing ∷ []) ∷ [])) bs P))
  free_F (memory_is a v) n bs P l = (refl, refl)
  free_F (load_is e v) n bs P l = (refl, refl)

spelt_free : (s : List ℕ) (c : Condition) (n : ℕ) → Spells s c → length s ≤ n → FitsC free n c
spelt_free s c n S l =
    free_C c n S.rest S.tokens (omega (arith, ap length S.text ∙ length-append (spaces S.before) S.rest))

-- 02 (x): "The text has one reading"
pub one_reading : (s : List ℕ) (c d : Condition) → Spells s c → Spells s d → c ≡ d
one_reading s c d S R =
    let read : (b : Condition) → Spells s b → whole_by (3 * length s + 3) free (length s) s 0 ≡ next b (length s) =
    λ b T. whole_reads free s b (length s) (3 * length s + 3) T (spelt_free s b (length s) T (le_refl _)) (le_refl _) in
    let same : next c (length s) ≡ next d (length s) = sym (read c S) ∙ read d R in
    cc

module _ (w : Ranges) (s t : List ℕ) (p : ℕ) (c : Condition) (bytes : Bytes s) (l : length s ≤ most_text) (m : length t ≤ most_text) (A : AlikeAt s t p) (S : Spells t c) where
  -- a fault of k, and the condition that keeps n levels, which may stand for those that are left
  no_condition : (k n : ℕ) → (3 ≡ k → ⊥) → Levels (λ x. x ≡ k) most_depth n → FitsC free n c → read_text w s ≡ stop k p → ⊥
  no_condition k n no-3 levels F h =
      let refused = whole-alike (λ x. x ≡ k) w free (free_freer _ w no-3) most_depth n enough levels s t bytes k p refl (sym (by_length w s l) ∙ h) A in
      let read = whole_reads free t c n enough S F (omega arith) in
      let z : ◌≡◌ {A = ℕ} 0 1 = cc in omega arith

  -- 02 (x): "anything outside the grammar is 21": no text that is alike up to a fault of 21 spells any condition, of whatever numbers and however deep
  pub outside : read_text w s ≡ stop 21 p → ⊥
  outside = no_condition 21 most_text (λ e. omega arith) (record { most = omega arith; same = λ e. absurd (omega arith) }) (spelt_free t c most_text S m)

  -- 02 (x): "17 is 22": every condition that a text spells that is alike up to a fault of 22 is nested too deep, whatever its numbers are
  pub too_deep : read_text w s ≡ stop 22 p → FitsC free most_depth c → ⊥
  too_deep h F = no_condition 22 most_depth (λ e. omega arith) (same_levels _ most_depth) F h
