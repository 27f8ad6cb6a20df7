-- Laws of `count`: the machine's count of a row's ones is the number of its members. Assumes nothing.
use mathlib.Core.Path.{◌≡◌, sym, ap, ap₂, ◌∙◌, subst}
use mathlib.Core.Bool.{Bool, ◌&&◌}
use mathlib.Core.Logic.{⊎_elim}
use Prim.Native.Nat.{ℕ, zero, suc, ◌+◌, ◌*◌, ◌/◌, ◌%◌, ◌^◌, ◌≤◌, ◌<◌}
use native.Mathlib.Nat.{mod-lt, zero-lt-suc, pow-suc, eq-or-lt_of_le, le_of_suc-le-suc}
use native.Mathlib.Omega.{arith}
use lib.Dec.{ltb}
use lib.Arith.{lt-one}
use lib.Count.{ones, ones_step, ones-ones}
use borrow.Author.Tests.{lt-ltb, le-ltb}
use Rattle.bits.specs.Bit.{bit}
use Rattle.finite.specs.Tests.{count, tick}
use Rattle.finite.proofs.Tests.{and-true, and-false, count_same, one-tick}
use Rattle.bits.proofs.Bits.{bit_low, bit-suc}

count_split : (n : ℕ) (p : ℕ → Bool) → count (suc n) p ≡ tick (p 0) + count n (λ i. p (suc i))
unfolding count
count_split zero p = omega arith
count_split (suc n) p = let ih : count (suc n) p ≡ tick (p 0) + count n (λ i. p (suc i)) = count_split n p in
    ap (λ (x : ℕ). x + tick (p (suc n))) ih ∙ omega arith

pub ones_count : (k n : ℕ) → n < 2 ^ k → ones n ≡ count k (bit n)
unfolding count
ones_count zero n h = ap ones (lt-one h) ∙ ones-ones 0
ones_count (suc k) n h =
    let h' : n < 2 ^ k * 2 = subst (λ (x : ℕ). n < x) (pow-suc 2 k) h in
    ones_step n
    ∙ ap₂ (λ (x y : ℕ). x + y) (sym (ap tick (bit_low n) ∙ one-tick (n % 2) (mod-lt n (zero-lt-suc 1))))
    (ones_count k (n / 2) (omega arith) ∙ count_same k (bit (n / 2)) (λ i. bit n (suc i)) (λ i l. sym (bit-suc n i)))
    ∙ sym (count_split k (bit n))

pub count-below : (n k : ℕ) (p : ℕ → Bool) → k ≤ n → count n (λ j. p j && ltb j k) ≡ count k p
unfolding count
count-below zero k p h = let e : k ≡ 0 = omega arith in sym (ap (λ (m : ℕ). count m p) e)
count-below (suc n) k p h =
    ⊎_elim
    (λ e. count_same (suc n) (λ j. p j && ltb j k) p (λ i l. ap (λ t. p i && t) (lt-ltb i k (omega arith)) ∙ and-true (p i)) ∙ ap (λ (m : ℕ). count m p) (sym e))
    (λ l. ap₂ (λ (x y : ℕ). x + y) (count-below n k p (le_of_suc-le-suc l)) (ap tick (ap (λ t. p n && t) (le-ltb n k (omega arith)) ∙ and-false (p n))) ∙ omega arith)
    (eq-or-lt_of_le h)
