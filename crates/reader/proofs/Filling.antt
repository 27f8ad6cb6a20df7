-- The loops that read one thing behind the other and store each: what is left to read from here, behind what is stored, is all there is to read.
-- Assumes nothing.
use Prim.Native.Nat.{ℕ, ◌+◌, ◌-◌, ◌≤◌, ◌<◌}
use mathlib.Core.Path.{◌≡◌, refl, sym, ◌∙◌}
use mathlib.Core.List.{List, [], ◌∷◌, ◌++◌}
use native.Mathlib.Omega.{arith}
use lib.ListN.{length, length-append}
use Rattle.number.specs.Reader.{Out, stop, next, Reader, turns, another}
use Rattle.number.proofs.Turns.{turns-none, turns-stop, turns_next, another-stop, another-next}
use Rattle.std.specs.Prelude.{Result, Err}
use Rattle.std.specs.Result.{IsErr, IsErrAnd}
use Rattle.std.proofs.lemmas.Result.{err_from_is_err_and}
use Rattle.number.specs.declared.Refusal.{Refusal}
use Rattle.reader.specs.Answers.{Done}

-- of k things i are read, each by the reader r that goes by those before it, and stored
pub record Filling {A : Type 0} (Stored : List A → Type 0) (r : List A → Reader A) (all : Out (List A)) (s : List ℕ) (k at i : ℕ) : Type 0 where
  pub read : List A
  pub stored : Stored read
  pub count : length read ≡ i
  pub few : i ≤ k
  pub same : turns (k - i) (λ as'. another (r as') as') read s at ≡ all

module _ {A : Type 0} (Stored : List A → Type 0) (r : List A → Reader A) (s : List ℕ) (k at : ℕ) where
  pub filling_begun : Stored [] → Filling Stored r (turns k (λ as'. another (r as') as') [] s at) s k at 0
  filling_begun h = let z : k - 0 ≡ k = omega arith in record { read = []; stored = h; count = refl; few = omega arith; same = rw z }

module _ {A : Type 0} (Stored : List A → Type 0) (r : List A → Reader A) (all : Out (List A)) (s : List ℕ) (k at i : ℕ) (h : Filling Stored r all s k at i) where
  pub filling_all : k ≤ i → Done Stored all at
  filling_all l = record { what = h.read; is = sym h.same ∙ turns-none (λ as'. another (r as') as') s (k - i) h.read at (omega arith); stored = h.stored }

  module _ (l : i < k) where
    pub filling_stop : (x p : ℕ) → ((as' : List A) → length as' ≡ i → Stored as' → r as' s at ≡ stop x p) → all ≡ stop x p
    filling_stop x p f =
        sym h.same ∙ turns-stop (λ as'. another (r as') as') s (k - i) h.read at x p (omega arith) (another-stop (r h.read) h.read s at x p (f h.read h.count h.stored))

    pub filling_next : (a : A) (p : ℕ) → ((as' : List A) → length as' ≡ i → Stored as' → r as' s at ≡ next a p) → (Stored' : List A → Type 0)
        → ((as' : List A) → length as' ≡ i → Stored as' → Stored' (as' ++ (a ∷ []))) → Filling Stored' r all s k p (i + 1)
    filling_next a p f S g = record {
      read = h.read ++ (a ∷ []);
      stored = g h.read h.count h.stored;
      count = simp length-append (omega (arith, h.count));
      few = omega arith;
      same = sym (turns_next (λ as'. another (r as') as') s (k - i) (k - (i + 1)) h.read (h.read ++ (a ∷ [])) at p (omega arith) (another-next (r h.read) h.read s at a p (f h.read h.count h.stored))) ∙ h.same;
    }

-- at the exit of a `?`: what is so of a refusal is so of what the exit gives
pub exit : {T : Type 0} (R : Result T Refusal → Type 0) (r : Result T Refusal) (e : Refusal) → IsErr r × IsErrAnd r (λ y. y ≡ e) → R (Err e) → R r
exit R r e h g = let p = err_from_is_err_and r h.1 in rw (p.1, p.2) g

-- what is stored so is stored so too
pub done-map : {A : Type 0} (S T : A → Type 0) → ((a : A) → S a → T a) → (o : Out A) (p : ℕ) → Done S o p → Done T o p
done-map S T f o p d = record { what = d.what; is = d.is; stored = f d.what d.stored }
