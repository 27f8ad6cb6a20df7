-- A thread's list has room for each write and each barrier once: no list is longer than both counts together.
-- Assumes nothing.
use Prim.Native.Nat.{ℕ, zero, suc, ◌+◌, ◌≤◌, ◌<◌}
use native.Mathlib.Omega.{arith}
use native.Mathlib.Decide.{ℕ_discrete}
use mathlib.Core.Path.{◌≡◌, refl, sym, ap, ap₂, ◌∙◌}
use mathlib.Core.Bool.{Bool, true, false, ◌&&◌, ◌||◌}
use mathlib.Core.List.{List, [], ◌∷◌}
use lib.Dec.{eqb}
use lib.ListN.{length}
use borrow.Author.Tests.{eq-eqb, ne_eqb}
use Rattle.finite.specs.Tests.{count, tick}
use Rattle.finite.proofs.Tests.{is_false, and_i, or_l, or_r, count_same, count-le}
use Rattle.storage_model.specs.Subsystem.{State, Event, write, barrier, same, member, precedes, events, writes_seen, barriers_seen}
use Rattle.storage_model.specs.Sound.{Sound, Listed}
use Rattle.storage_laws.proofs.Lists.{same_refl}

-- one number more passes
count_with : (n v : ℕ) (p : ℕ → Bool) → v < n → p v ≡ false → count n (λ w. eqb w v || p w) ≡ suc (count n p)
unfolding count
count_with zero v p l h = absurd (omega arith)
count_with (suc n) v p l h = by (ℕ_discrete n v) (λ k. count_with n v p k h)
  where
    by : Dec (n ≡ v) → (v < n → count n (λ w. eqb w v || p w) ≡ suc (count n p)) → count n (λ w. eqb w v || p w) + tick (eqb n v || p n) ≡ suc (count n p + tick (p n))
    by (yes e) ih =
        let none : p n ≡ false = ap p e ∙ h in
        let same-below : count n (λ w. eqb w v || p w) ≡ count n p = count_same n _ _ (λ w lw. rw (ne_eqb w v (λ c. omega (arith, e)))) in
        rw (same-below, eq-eqb n v e, none) (omega arith)
    by (no d) ih = rw (ne_eqb n v d, ih (omega arith)) (omega arith)

count_none : (k : ℕ) → count k (λ _. false) ≡ 0
unfolding count
count_none zero = refl
count_none (suc k) = let e = count_none k in omega arith

-- how many numbers of each kind stand in the list
tally : (w b : ℕ) (l : List Event) → ((e : Event) → precedes e e l ≡ true → ⊥) → ((v : ℕ) → member (write v) l ≡ true → v < w)
    → ((c : ℕ) → member (barrier c) l ≡ true → c < b)
    → count w (λ v. member (write v) l) + count b (λ c. member (barrier c) l) ≡ length l
unfolding precedes member same
tally w b [] once hw hb = ap₂ ◌+◌ (count_none w) (count_none b)
tally w b (x ∷ l) once hw hb =
    by x (is_false (λ m. once x (or_l (same x x && member x l) (precedes x x l) (and_i (same x x) (member x l) (same_refl x) m))))
    (tally w b l (λ e h. once e (or_r (same e x && member e l) (precedes e e l) h)) (λ v h. hw v (or_r (same (write v) x) (member (write v) l) h))
    (λ c h. hb c (or_r (same (barrier c) x) (member (barrier c) l) h)))
    (λ v e. hw v (or_l (same (write v) x) (member (write v) l) (ap (λ (z : Event). same (write v) z) (sym e) ∙ same_refl (write v))))
    (λ c e. hb c (or_l (same (barrier c) x) (member (barrier c) l) (ap (λ (z : Event). same (barrier c) z) (sym e) ∙ same_refl (barrier c))))
  where
    by : (y : Event) → member y l ≡ false → count w (λ v. member (write v) l) + count b (λ c. member (barrier c) l) ≡ length l
        → ((v : ℕ) → write v ≡ y → v < w) → ((c : ℕ) → barrier c ≡ y → c < b)
        → count w (λ v. same (write v) y || member (write v) l) + count b (λ c. same (barrier c) y || member (barrier c) l) ≡ suc (length l)
    by (write v) new ih lw lb = let e = count_with w v (λ v. member (write v) l) (lw v refl) new in rw e (omega (arith, ih))
    by (barrier c) new ih lw lb = let e = count_with b c (λ c. member (barrier c) l) (lb c refl) new in rw e (omega (arith, ih))

listed-short : (s : State) (l : List Event) → Listed s l → length l ≤ writes_seen s + barriers_seen s
listed-short s l L =
    let e = tally (writes_seen s) (barriers_seen s) l L.once L.writes L.barriers in
    omega (arith, e, count-le (writes_seen s) (λ v. member (write v) l), count-le (barriers_seen s) (λ c. member (barrier c) l))

-- at most 24 with the limits of a trace
pub lists-short : (s : State) → Sound s → (t : ℕ) → length (events s t) ≤ writes_seen s + barriers_seen s
lists-short s S t = listed-short s (events s t) (S.lists t)
