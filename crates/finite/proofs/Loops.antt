-- What holds at each turn of a loop that tests, and of one that counts.
-- Assumes nothing.
use mathlib.Core.Path.{◌≡◌, refl, sym, ap, ap₂, ◌∙◌}
use mathlib.Core.Bool.{Bool, true, false, not}
use Prim.Native.Nat.{ℕ, ◌+◌, ◌≤◌, ◌<◌}
use native.Mathlib.Nat.{le_antisymm}
use native.Mathlib.Omega.{arith}
use borrow.Author.Tests.{not-false}
use Rattle.finite.specs.Tests.{all, count, tick}
use Rattle.finite.proofs.Tests.{all_none, all_more, loop_fails, loop_ends, count-more, tick-le}

-- every number below i passes
pub record Passed (n : ℕ) (p : ℕ → Bool) (i : ℕ) : Type 0 where
  pub within : i ≤ n
  pub pass : all i p ≡ true

module _ {n : ℕ} {p : ℕ → Bool} where
  pub begun : Passed n p 0
  begun = record { within = omega arith; pass = all_none p }

  pub fails : {i : ℕ} {x : Bool} → Passed n p i → i < n → x ≡ p i → not x ≡ true → false ≡ all n p
  fails {i} h l e t = loop_fails n p i l e t

  pub one_more : {i : ℕ} → Passed n p i → i < n → p i ≡ true → Passed n p (i + 1)
  one_more {i} h l e = record { within = omega arith; pass = all_more i p h.pass e }

  pub passes : {i : ℕ} {x : Bool} → Passed n p i → i < n → x ≡ p i → not x ≡ false → Passed n p (i + 1)
  passes {x = x} h l e t = one_more h l (sym e ∙ not-false x t)

  pub ends : {i : ℕ} → Passed n p i → n ≤ i → true ≡ all n p
  ends {i} h g = loop_ends n p i h.pass h.within g

-- j of the numbers below i pass
pub record Counting (p : ℕ → Bool) (n j i : ℕ) : Type 0 where
  pub within : i ≤ n
  pub few : j ≤ i
  pub counted : j ≡ count i p

pub counting_begun : (p : ℕ → Bool) (n : ℕ) → Counting p n 0 0
unfolding count
counting_begun p n = record { within = omega arith; few = omega arith; counted = refl }

module _ (p : ℕ → Bool) (n j i : ℕ) (h : Counting p n j i) where
  -- the test answers b at i, and j' is the new count
  module _ (l : i < n) (b : Bool) (e : b ≡ p i) (j' : ℕ) where
    turn : j' ≡ j + tick b → Counting p n j' (i + 1)
    turn s = record {
      within = omega arith;
      few = omega (arith, tick-le b, h.few);
      counted = s ∙ ap₂ (λ (m : ℕ) (a : Bool). m + tick a) h.counted e ∙ sym (count-more i p);
    }

    pub one-counted : b ≡ true → j' ≡ j + 1 → Counting p n j' (i + 1)
    one-counted y s = turn (rw y s)

    pub not-counted : b ≡ false → j' ≡ j → Counting p n j' (i + 1)
    not-counted y s = turn (rw y (omega arith))

  pub counted-all : n ≤ i → j ≡ count n p
  counted-all l = h.counted ∙ ap (λ (m : ℕ). count m p) (le_antisymm h.within l)
