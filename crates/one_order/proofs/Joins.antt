-- What holds at each turn of a loop that keeps what sets have in common.
-- Assumes nothing.
use Prim.Native.Nat.{ℕ, ◌+◌, ◌-◌, ◌≤◌, ◌<◌, min}
use native.Mathlib.Nat.{le_antisymm}
use native.Mathlib.Omega.{arith}
use mathlib.Core.Path.{◌≡◌, refl, sym, ap, ap₂, ◌∙◌}
use mathlib.Core.Bool.{Bool, ◌&&◌}
use lib.Bits.{bit_and}
use Rattle.finite.specs.Tests.{all}
use Rattle.finite.proofs.Tests.{iff, all-next, all_get, all_make}
use Rattle.bits.specs.Bit.{bit}
use Rattle.bits.proofs.Bits.{bit-and}
use Rattle.rows.specs.Sets.{Set}

-- the set is what the first i of m parts have in common
pub record Joined (m : ℕ) (f : ℕ → ℕ → Bool) (i acc : ℕ) : Type 0 where
  pub within : i ≤ m
  pub common : (e : ℕ) → bit acc e ≡ all i (λ j. f j e)

all_one : (p : ℕ → Bool) → all 1 p ≡ p 0
unfolding all
all_one p = refl

-- the last of n numbers once more, for each that is missing up to m
all-last : (n m : ℕ) (p : ℕ → Bool) → 1 ≤ n → n ≤ m → all m (λ i. p (min i (n - 1))) ≡ all n p
all-last n m p l h =
    iff
    (λ t. all_make n p (λ i li.
    let e : min i (n - 1) ≡ i = omega arith in
    ap p (sym e) ∙ all_get m (λ i. p (min i (n - 1))) t i (omega arith)))
    (λ t. all_make m (λ i. p (min i (n - 1))) (λ i li. all_get n p t (min i (n - 1)) (omega arith)))

module _ {m : ℕ} {f : ℕ → ℕ → Bool} where
  pub join_first : {part : ℕ} → 1 ≤ m → Set part (f 0) → Joined m f 1 part
  join_first l s = record { within = l; common = λ e. s.has e ∙ sym (all_one (λ j. f j e)) }

  pub join_next : {i acc part next : ℕ} → Joined m f i acc → i < m → Set part (f i) → next ≡ bit_and acc part → Joined m f (i + 1) next
  join_next {i} {acc} {part} h l s e = record {
    within = omega arith;
    common = λ g. ap (λ (x : ℕ). bit x g) e ∙ bit-and acc part g ∙ ap₂ ◌&&◌ (h.common g) (s.has g) ∙ sym (all-next i (λ j. f j g));
  }

-- the parts are those of n threads, with the last one's again for each thread that is missing
pub join_all : (n : ℕ) {m : ℕ} (f : ℕ → ℕ → Bool) {i acc : ℕ} → Joined m (λ j. f (min j (n - 1))) i acc → m ≤ i → 1 ≤ n → n ≤ m → Set acc (λ e. all n (λ j. f j e))
join_all n {m} f {i} h g l few = record {
  has = λ e. h.common e ∙ ap (λ (x : ℕ). all x (λ j. f (min j (n - 1)) e)) (le_antisymm h.within g) ∙ all-last n m (λ j. f j e) l few;
}
