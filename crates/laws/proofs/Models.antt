-- Whatever PPCs accepts, PPCw accepts (02 (i)).
-- Assumes nothing.
use Prim.Native.Nat.{ℕ, zero, suc, ◌<◌}
use native.Mathlib.Omega.{arith}
use mathlib.Core.Path.{◌≡◌, refl, ap, ◌∙◌}
use mathlib.Core.Bool.{Bool, true, false}
use mathlib.Core.List.{List}
use lib.Dec.{lit<}
use Rattle.finite.specs.Tests.{all, ◌⇒◌}
use Rattle.finite.proofs.Tests.{and_l, and_r, and_i, imp_e, imp_i, or_r, all_get, all_make}
use Rattle.number.specs.Reader.{Out, stop, next}
use Rattle.model.specs.Case.{Case}
use Rattle.model.specs.Record.{read}
use Rattle.model.specs.Rules.{PPCw, PPCs, or_else, is_load, of, paired, seen, judged}
use Rattle.model.specs.Rules.{rule11, rule12, rule13, rule14, rule15, rule16, verdict}
use Rattle.model.specs.Answers.{judgement, judge_out, handed, judge, judge_case}

-- what is asked of more loads, or more of each, is asked of less
pub fewer : (n k : ℕ) {f g x y : ℕ → ℕ → Bool} → ((p l : ℕ) → f p l ≡ true → g p l ≡ true) → ((p l : ℕ) → x p l ≡ true → y p l ≡ true)
    → all n (λ p. all k (λ l. g p l ⇒ x p l)) ≡ true → all n (λ p. all k (λ l. f p l ⇒ y p l)) ≡ true
fewer n k {f} {g} {x} {y} h m t =
    all_make n _ (λ p lp. all_make k _ (λ l ll.
    imp_i (f p l) (y p l) (λ u. m p l (imp_e (g p l) (x p l) (all_get k _ (all_get n _ t p lp) l ll) (h p l u)))))

-- no rule of the first list is broken, and each then holds in the second
passes : (a b : Bool) (v x y : ℕ) → 0 < v → (a ≡ true → b ≡ true) → (x ≡ 0 → y ≡ 0) → or_else a v x ≡ 0 → or_else b v y ≡ 0
passes true b v x y l f g e = ap (λ t. or_else t v y) (f refl) ∙ g e
passes false b v x y l f g e = absurd (omega arith)

module _ (c : Case) where
  open c use {n, k}

  own-judged : (p l : ℕ) → judged c PPCw p l ≡ true → judged c PPCs p l ≡ true
  unfolding judged seen
  own-judged p l h =
      and_i (is_load c l) (seen c p l) (and_l (is_load c l) (of c p l) h) (or_r (paired c p l) (of c p l) (and_r (is_load c l) (of c p l) h))

  weaker15 : rule15 c PPCs ≡ true → rule15 c PPCw ≡ true
  unfolding rule15
  weaker15 = fewer n k own-judged (λ p l u. u)

  weaker16 : rule16 c PPCs ≡ true → rule16 c PPCw ≡ true
  unfolding rule16
  weaker16 = fewer n k own-judged (λ p l u. u)

  -- 02 (i): "whatever PPCs accepts, PPCw accepts"
  pub strong_weak : verdict c PPCs ≡ 0 → verdict c PPCw ≡ 0
  unfolding verdict
  strong_weak =
      passes (rule11 c) (rule11 c) 11 _ _ (lit< tt) (λ t. t)
      (passes (rule12 c) (rule12 c) 12 _ _ (lit< tt) (λ t. t)
      (passes (rule13 c) (rule13 c) 13 _ _ (lit< tt) (λ t. t)
      (passes (rule14 c) (rule14 c) 14 _ _ (lit< tt) (λ t. t)
      (passes (rule15 c PPCs) (rule15 c PPCw) 15 _ _ (lit< tt) weaker15
      (passes (rule16 c PPCs) (rule16 c PPCw) 16 _ _ (lit< tt) weaker16 (λ t. t))))))

-- and with the same answer: length and finals too
strong_weak_out : (o : Out Case) → (judge_out PPCs o).number ≡ 0 → judge_out PPCw o ≡ judge_out PPCs o
strong_weak_out (stop x p) h = refl
strong_weak_out (next c i) h = by (verdict c PPCs) refl h
  where
    by : (v : ℕ) → verdict c PPCs ≡ v → (judgement c i v).number ≡ 0 → judgement c i (verdict c PPCw) ≡ judgement c i v
    by zero e h = ap (judgement c i) (strong_weak c e)
    by (suc v) e h = absurd (omega arith)

pub strong_weak_bytes : (bytes : List ℕ) → (judge 1 bytes).number ≡ 0 → judge 0 bytes ≡ judge 1 bytes
unfolding judge
strong_weak_bytes bytes = strong_weak_out (read bytes)

pub strong_weak_case : (c : Case) → (judge_case 1 c).number ≡ 0 → judge_case 0 c ≡ judge_case 1 c
unfolding judge_case
strong_weak_case c = strong_weak_out (handed c)
