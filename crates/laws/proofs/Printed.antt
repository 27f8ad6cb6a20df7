-- What V(p)'s own events (02 (i)) move, beside V(p) as source document 000 prints it: nothing under PPCw, and under PPCs only
-- to 15 or 16.
-- Assumes nothing.
use Prim.Native.Nat.{ℕ, ◌<◌}
use native.Mathlib.Omega.{arith}
use mathlib.Core.Path.{◌≡◌, refl, sym, ap, ap₂, ◌∙◌}
use mathlib.Core.Bool.{Bool, true, false, not, ◌&&◌, ◌||◌}
use lib.Dec.{eqb}
use borrow.Author.Tests.{eqb-true}
use Rattle.finite.specs.Tests.{all, some, ◌⇒◌}
use Rattle.finite.proofs.Tests.{iff, and_l, and_r, and_i, imp_e, imp_i, or_l, or_r, or_e, is_false, T_true, all_get, all_make, all_same, some_make, imp_cong}
use Rattle.model.specs.Case.{Case, load, store}
use Rattle.model.specs.Rules.{Model, PPCw, PPCs, or_else, kind, address, value, initial, is_load, is_store, of, one_address, store_for, before, paired, seen, judged}
use Rattle.model.specs.Rules.{rule11, rule12, rule13, rule14, rule15, rule16, rule17, rule18, verdict}
use Rattle.laws.proofs.Models.{fewer}

module _ (c : Case) where
  open c use {n, k}

  -- ---- the rules with V(p) as it is printed: "every event that stands in some pair of p's order"

  abbrev pub printed_judged : Model → ℕ → ℕ → Bool
  printed_judged PPCw p l = is_load c l && of c p l
  printed_judged PPCs p l = is_load c l && paired c p l

  -- what 15 asks of a load
  abbrev known : ℕ → ℕ → Bool
  known p l = eqb (value c l) (initial c (address c l)) || (some k λ s. store_for c l s && before c p s l)

  -- what 16 asks of a load and a store
  abbrev latest : ℕ → ℕ → ℕ → Bool
  latest p l s =
      (some k λ x. store_for c l x && not (eqb x s) && before c p s x && before c p x l) || eqb (value c l) (value c s) || before c p l s

  abbrev pub printed15 : Model → Bool
  printed15 w = all n λ p. all k λ l. printed_judged w p l ⇒ known p l

  abbrev pub printed16 : Model → Bool
  printed16 w = all n λ p. all k λ l. printed_judged w p l ⇒ (all k λ s. (store_for c l s && paired c p s) ⇒ latest p l s)

  abbrev pub printed_verdict : Model → ℕ
  printed_verdict w =
      or_else (rule11 c) 11 (or_else (rule12 c) 12 (or_else (rule13 c) 13 (or_else (rule14 c) 14
      (or_else (printed15 w) 15 (or_else (printed16 w) 16 (or_else (rule17 c) 17 (or_else (rule18 c) 18 0)))))))

  -- what is asked of an event of p's pairs is asked of one in V(p)
  paired-seen : (x : Bool) (p e : ℕ) → (x && paired c p e) ≡ true → (x && seen c p e) ≡ true
  unfolding seen
  paired-seen x p e h = and_i x (seen c p e) (and_l x (paired c p e) h) (or_l (paired c p e) (of c p e) (and_r x (paired c p e) h))

  -- ---- under PPCw

  -- a load is no store
  apart : (l s : ℕ) → is_load c l ≡ true → is_store c s ≡ true → not (eqb l s) ≡ true
  unfolding is_load is_store
  apart l s hl hs =
      ap not (is_false (λ e.
      let z : load ≡ store = sym (eqb-true (kind c l) load hl) ∙ ap (kind c) (eqb-true l s e) ∙ eqb-true (kind c s) store hs in omega (arith, z)))

  -- rule 12 pairs a thread's own load and its own store
  own-paired : rule12 c ≡ true → (p : ℕ) → p < n → (l : ℕ) → l < k → is_load c l ≡ true → of c p l ≡ true
      → (s : ℕ) → s < k → is_store c s ≡ true → of c p s ≡ true → paired c p s ≡ true
  unfolding rule12 paired
  own-paired t p lp l ll hl ol s ls hs os =
      some_make k (λ x. before c p s x || before c p x s) l ll
      (or_e (before c p l s) (before c p s l) (or_r (before c p s l) (before c p l s)) (or_l (before c p s l) (before c p l s))
      (imp_e (of c p s && not (eqb l s)) (before c p l s || before c p s l)
      (all_get k _ (imp_e (of c p l) _ (all_get k _ (all_get n _ t p lp) l ll) ol) s ls)
      (and_i (of c p s) (not (eqb l s)) os (apart l s hl hs))))

  seen-stores : rule12 c ≡ true → (p : ℕ) → p < n → (l : ℕ) → l < k → printed_judged PPCw p l ≡ true
      → (s : ℕ) → s < k → (store_for c l s && seen c p s) ≡ (store_for c l s && paired c p s)
  unfolding seen store_for
  seen-stores t p lp l ll j s ls =
      iff
      (λ h.
      let f = and_l (store_for c l s) (seen c p s) h in
      and_i (store_for c l s) (paired c p s) f
      (or_e (paired c p s) (of c p s) (λ u. u)
      (own-paired t p lp l ll (and_l (is_load c l) (of c p l) j) (and_r (is_load c l) (of c p l) j) s ls (and_l (is_store c s) (one_address c l s) f))
      (and_r (store_for c l s) (seen c p s) h)))
      (paired-seen (store_for c l s) p s)

  weak16 : rule12 c ≡ true → rule16 c PPCw ≡ printed16 PPCw
  unfolding rule16 judged
  weak16 t =
      all_same n _ _ (λ p lp. all_same k _ _ (λ l ll. imp_cong (printed_judged PPCw p l) _ _
      (λ j. all_same k _ _ (λ s ls. ap (λ b. b ⇒ latest p l s) (seen-stores t p lp l ll (T_true j) s ls)))))

  pub weak_stays : verdict c PPCw ≡ printed_verdict PPCw
  unfolding verdict rule15 judged
  weak_stays = go (rule12 c) refl
    where
      from : Bool → Bool → ℕ
      from b x =
          or_else (rule11 c) 11 (or_else b 12 (or_else (rule13 c) 13 (or_else (rule14 c) 14
          (or_else (printed15 PPCw) 15 (or_else x 16 (or_else (rule17 c) 17 (or_else (rule18 c) 18 0)))))))

      go : (b : Bool) → rule12 c ≡ b → from (rule12 c) (rule16 c PPCw) ≡ from (rule12 c) (printed16 PPCw)
      go true t = ap (from (rule12 c)) (weak16 t)
      go false t = ap (λ b. from b (rule16 c PPCw)) t ∙ sym (ap (λ b. from b (printed16 PPCw)) t)

  -- ---- under PPCs

  more-judged : (p l : ℕ) → printed_judged PPCs p l ≡ true → judged c PPCs p l ≡ true
  unfolding judged
  more-judged p l = paired-seen (is_load c l) p l

  strong15 : rule15 c PPCs ≡ true → printed15 PPCs ≡ true
  unfolding rule15
  strong15 = fewer n k more-judged (λ p l u. u)

  strong16 : rule16 c PPCs ≡ true → printed16 PPCs ≡ true
  unfolding rule16
  strong16 =
      fewer n k more-judged (λ p l t. all_make k _ (λ s ls. imp_i (store_for c l s && paired c p s) (latest p l s) (λ h.
      imp_e (store_for c l s && seen c p s) (latest p l s) (all_get k _ t s ls) (paired-seen (store_for c l s) p s h))))

  pub strong_moves : (verdict c PPCs ≡ 15 → ⊥) → (verdict c PPCs ≡ 16 → ⊥) → verdict c PPCs ≡ printed_verdict PPCs
  unfolding verdict
  strong_moves =
      go (rule11 c) (rule12 c) (rule13 c) (rule14 c) (rule15 c PPCs) (rule16 c PPCs) (printed15 PPCs) (printed16 PPCs)
      (or_else (rule17 c) 17 (or_else (rule18 c) 18 0)) strong15 strong16
    where
      from : (a b d e f g : Bool) → ℕ → ℕ
      from a b d e f g rest = or_else a 11 (or_else b 12 (or_else d 13 (or_else e 14 (or_else f 15 (or_else g 16 rest)))))

      go : (a b d e f g x y : Bool) (rest : ℕ) → (f ≡ true → x ≡ true) → (g ≡ true → y ≡ true)
          → (from a b d e f g rest ≡ 15 → ⊥) → (from a b d e f g rest ≡ 16 → ⊥) → from a b d e f g rest ≡ from a b d e x y rest
      go false b d e f g x y rest s t h i = refl
      go true false d e f g x y rest s t h i = refl
      go true true false e f g x y rest s t h i = refl
      go true true true false f g x y rest s t h i = refl
      go true true true true false g x y rest s t h i = absurd (h refl)
      go true true true true true false x y rest s t h i = absurd (i refl)
      go true true true true true true x y rest s t h i = ap₂ (λ u v. or_else u 15 (or_else v 16 rest)) (sym (s refl)) (sym (t refl))
