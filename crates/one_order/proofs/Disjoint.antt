-- When two sets have no event in common.
-- Assumes nothing.
use Prim.Native.Nat.{ℕ, ◌^◌, ◌≤◌, ◌<◌}
use native.Mathlib.Omega.{arith}
use native.Mathlib.Nat.{lt_of_le_of_lt}
use mathlib.Core.Path.{◌≡◌, refl, sym, ap, ◌∙◌}
use mathlib.Core.Bool.{Bool, true, false, not, ◌&&◌, true≢false}
use lib.Bits.{bit_and, and_le_l}
use lib.Dec.{eqb, ltb}
use lib.Pow.{pow_pos}
use borrow.Author.Tests.{eqb-true, eq-eqb, ltb-true, lt-ltb, not-true}
use Rattle.finite.specs.Tests.{all, ◌⇒◌}
use Rattle.finite.proofs.Tests.{iff, and_i, and_l, and_r, imp_e, imp_i, is_false, all_get, all_make}
use Rattle.bits.specs.Bit.{bit, width}
use Rattle.bits.proofs.Bits.{bit-zero, bit-and, bit_ext}
use Rattle.rows.specs.Sets.{Set}

pub bit_apart : (n a b : ℕ) → a < 2 ^ n → eqb (bit_and a b) 0 ≡ all n (λ j. bit a j ⇒ not (bit b j))
bit_apart n a b fit =
    iff
    (λ e. all_make n (λ j. bit a j ⇒ not (bit b j))
    (λ j l. imp_i (bit a j) (not (bit b j))
    (λ t. ap not (is_false (λ u. true≢false
    (sym (bit-and a b j ∙ and_i (bit a j) (bit b j) t u) ∙ ap (λ (x : ℕ). bit x j) (eqb-true (bit_and a b) 0 e) ∙ bit-zero j))))))
    (λ h. eq-eqb (bit_and a b) 0
    (bit_ext n (bit_and a b) 0 (lt_of_le_of_lt (and_le_l a b) fit) (pow_pos n)
    (λ j l. is_false (λ t.
    let both : (bit a j && bit b j) ≡ true = sym (bit-and a b j) ∙ t in
    let no : not (bit b j) ≡ true = imp_e (bit a j) (not (bit b j)) (all_get n (λ j. bit a j ⇒ not (bit b j)) h j l) (and_l (bit a j) (bit b j) both) in
    true≢false (sym (and_r (bit a j) (bit b j) both) ∙ not-true (bit b j) no))
    ∙ sym (bit-zero j))))

-- a set has no event in common with the events below k that are not in another: below k it is inside the other
pub apart_others : (k : ℕ) → k ≤ width → {x : Bool} (a b : ℕ) {others : ℕ} → Set others (λ e. ltb e k && not (bit b e))
    → x ≡ all width (λ j. bit a j ⇒ not (bit others j)) → x ≡ all k (λ j. bit a j ⇒ bit b j)
apart_others k m a b {others} s h = h ∙ iff
    (λ t. all_make k (λ j. bit a j ⇒ bit b j) (λ j l. imp_i (bit a j) (bit b j) (λ u.
    double (bit b j) (ltb j k) (lt-ltb j k l)
    (ap not (sym (s.has j)) ∙ imp_e (bit a j) (not (bit others j)) (all_get width (λ j. bit a j ⇒ not (bit others j)) t j (omega arith)) u))))
    (λ t. all_make width (λ j. bit a j ⇒ not (bit others j)) (λ j l. imp_i (bit a j) (not (bit others j)) (λ u.
    ap not (is_false (λ v.
    let both : (ltb j k && not (bit b j)) ≡ true = sym (s.has j) ∙ v in
    let lj : j < k = ltb-true j k (and_l (ltb j k) (not (bit b j)) both) in
    true≢false (sym (imp_e (bit a j) (bit b j) (all_get k (λ j. bit a j ⇒ bit b j) t j lj) u) ∙ not-true (bit b j) (and_r (ltb j k) (not (bit b j)) both)))))))
  where
    double : (y l : Bool) → l ≡ true → not (l && not y) ≡ true → y ≡ true
    double true l e h = refl
    double false true e h = h
    double false false e h = e ∙ refl
