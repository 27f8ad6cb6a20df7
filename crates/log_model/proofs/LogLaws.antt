-- The log without its fuel: what it is where no byte is left, where a record is refused and where one is read.
-- Assumes nothing.
use Prim.Native.Nat.{ℕ, zero, suc, ◌+◌, ◌≤◌, ◌<◌}
use native.Mathlib.Omega.{arith}
use native.Mathlib.Nat.{le_refl}
use mathlib.Core.Path.{◌≡◌, refl, ap}
use mathlib.Core.List.{List, [], ◌∷◌}
use lib.ListN.{length, drop, length-drop}
use Rattle.number.specs.Reader.{Out, stop, next}
use Rattle.model.specs.Case.{Case}
use Rattle.model.specs.Rules.{PPCs, verdict}
use Rattle.model.specs.Record.{read}
use Rattle.laws.proofs.ExtentCase.{Accepted, accepted, read_none}
use Rattle.log_model.specs.Log.{no_fault, ends_with, before, by_reading, log_by, log_from}

-- a record takes a byte at least
drop-less : (s : List ℕ) (c : Case) (i j : ℕ) → read s ≡ next c i → length s ≤ suc j → length (drop i s) ≤ j
drop-less s c i j e l = let A : Accepted s c i = accepted s c i e in rw length-drop (omega (arith, A.some, A.inside))

-- any fuel will do that is at least the bytes
fuel_any : (i j place : ℕ) (s : List ℕ) → length s ≤ i → length s ≤ j → log_by i place s ≡ log_by j place s
unfolding log_by
fuel_any zero zero place s a b = refl
fuel_any zero (suc j) place [] a b = refl
fuel_any zero (suc j) place (x ∷ s) a b = absurd (omega arith)
fuel_any (suc i) zero place [] a b = refl
fuel_any (suc i) zero place (x ∷ s) a b = absurd (omega arith)
fuel_any (suc i) (suc j) place [] a b = refl
fuel_any (suc i) (suc j) place (x ∷ s) a b = go (λ k. fuel_any i j (place + k) (drop k (x ∷ s))) (read (x ∷ s)) refl
  where
    go : ((k : ℕ) → length (drop k (x ∷ s)) ≤ i → length (drop k (x ∷ s)) ≤ j → log_by i (place + k) (drop k (x ∷ s)) ≡ log_by j (place + k) (drop k (x ∷ s)))
        → (o : Out Case) → read (x ∷ s) ≡ o
        → by_reading place (λ k. log_by i (place + k) (drop k (x ∷ s))) o ≡ by_reading place (λ k. log_by j (place + k) (drop k (x ∷ s))) o
    go ih (stop y p) e = refl
    go ih (next c k) e = ap (before (verdict c PPCs)) (ih k (drop-less (x ∷ s) c k i e a) (drop-less (x ∷ s) c k j e b))

pub log_none : (place : ℕ) → log_from place [] ≡ ends_with no_fault
unfolding log_from log_by
log_none place = refl

pub log_stop : (place : ℕ) (s : List ℕ) (x p : ℕ) → 0 < length s → read s ≡ stop x p → log_from place s ≡ ends_with (record { number = x; place = place + p })
unfolding log_from log_by
log_stop place [] x p l e = absurd (omega arith)
log_stop place (b ∷ s) x p l e = rw e

pub log_next : (place : ℕ) (s : List ℕ) (c : Case) (i : ℕ) → read s ≡ next c i → log_from place s ≡ before (verdict c PPCs) (log_from (place + i) (drop i s))
unfolding log_from log_by
log_next place [] c i e = let z : ◌≡◌ {A = ℕ} 0 1 = clash read_none e in absurd (omega arith)
  where
    clash : read [] ≡ stop 1 0 → read [] ≡ next c i → ◌≡◌ {A = ℕ} 0 1
    clash p q = cc
log_next place (b ∷ s) c i e =
    rw e (ap (before (verdict c PPCs))
    (fuel_any (length s) (length (drop i (b ∷ s))) (place + i) (drop i (b ∷ s)) (drop-less (b ∷ s) c i (length s) e (le_refl (length (b ∷ s)))) (le_refl (length (drop i (b ∷ s))))))
