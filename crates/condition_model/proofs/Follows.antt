-- Two runs of a reader, the second where more is allowed: what the first reads the second reads, and a refusal that is no matter of what is allowed stays, for every
-- text that is alike so far. An answer rests on nothing to the right of its place.
-- Assumes nothing.
use Prim.Native.Nat.{ℕ, zero, suc, ◌+◌, ◌≤◌}
use native.Mathlib.Nat.{le_refl}
use native.Mathlib.Omega.{arith}
use mathlib.Core.Path.{◌≡◌, refl, sym, ap, ◌∙◌}
use mathlib.Core.Logic.{inl, inr}
use mathlib.Core.Bool.{Bool, true, false, cond}
use mathlib.Core.List.{List, [], ◌∷◌}
use lib.ListN.{length, drop, get_or}
use lib.Seq.{get_or-drop}
use borrow.Author.Tests.{eqb-true}
use Rattle.number.specs.Reader.{Out, stop, next, Reader, give, onward, unless, tested}
use Rattle.condition_model.specs.Grammar.{Condition.a_term, Condition.or_else, Term.a_factor, Term.and_also, Factor, Factor.negation, Factor.bracketed, Factor.memory_is, Factor.load_is, opening, closing, slash, equals, backslash, letter_e, letter_m, tilde, Ranges, free}
use Rattle.condition_model.specs.Reader.{byte, is, front, is_space, is_digit, skipped, sign, digits, value_by, unfit, number_of, number, number_in, label, valued, equation_by, choose, if_byte, equation_at, nested, behind_sign, joined, closed, negated, condition_by, term_by, factor_by}
use Rattle.condition_model.specs.Faults.{Due, Alike, AlikeAt}

-- ---- the bytes that a list begins with

front_local : (test : ℕ → Bool) (l m : List ℕ) → test 256 ≡ false → ((i : ℕ) → i ≤ length (front test l) → get_or l i 256 ≡ get_or m i 256) → front test m ≡ front test l
unfolding front
front_local test [] [] n h = refl
front_local test [] (c ∷ m) n h = let e : 256 ≡ c = h 0 (le_refl 0) in rw (← e, n)
front_local test (b ∷ l) [] n h = let e : b ≡ 256 = h 0 (omega arith) in rw (e, n)
front_local test (b ∷ l) (c ∷ m) n h₀ = let e : b ≡ c = h₀ 0 (omega arith) in rw (← e) (go (test b) h₀ (front_local test l m n))
  where
    go : (t : Bool) → ((i : ℕ) → i ≤ length (cond t (b ∷ front test l) []) → get_or (b ∷ l) i 256 ≡ get_or (c ∷ m) i 256)
        → (((i : ℕ) → i ≤ length (front test l) → get_or l i 256 ≡ get_or m i 256) → front test m ≡ front test l)
        → cond t (b ∷ front test m) [] ≡ cond t (b ∷ front test l) []
    go true h f = ap (λ (x : List ℕ). b ∷ x) (f (λ i k. h (suc i) (omega arith)))
    go false h f = refl

front-alike : (test : ℕ → Bool) (s t : List ℕ) (at p : ℕ) → test 256 ≡ false → Alike s t p → at + length (front test (drop at s)) ≤ p → front test (drop at t) ≡ front test (drop at s)
front-alike test s t at p n A l =
    front_local test (drop at s) (drop at t) n (λ i k. get_or-drop at s i 256 ∙ A (at + i) (omega arith) ∙ sym (get_or-drop at t i 256))

pub skip-alike : (s t : List ℕ) (at p : ℕ) → Alike s t p → skipped s at ≤ p → skipped t at ≡ skipped s at
unfolding skipped
skip-alike s t at p A l = rw (front-alike is_space s t at p refl A l)

skip_on : (s : List ℕ) (at : ℕ) → at ≤ skipped s at
unfolding skipped
skip_on s at = omega arith

-- a sign that is read stands there
sign_passed : (s : List ℕ) (x at p : ℕ) {u : Unit {0}} → sign x s at ≡ next u p → (byte s at ≡ x) × (p ≡ at + 1)
unfolding sign
sign_passed s x at p {u} = go (is x s at) refl
  where
    go : (b : Bool) → is x s at ≡ b → cond b (next (tt {0}) (at + 1)) (stop 21 at) ≡ next u p → (byte s at ≡ x) × (p ≡ at + 1)
    go true e h = (eqb-true (byte s at) x e, cc)
    go false e h = let z : ◌≡◌ {A = ℕ} 0 1 = cc in absurd (omega arith)

-- ---- what the second run has to give

-- of an answer from `at` on: it lies behind `at`, and o' is the same if the texts are alike so far; Kept are the refusals that stay
abbrev FollowsAt : (Kept : ℕ → Type 0) (s t : List ℕ) {A : Type 0} (at : ℕ) → Out A → Out A → Type 0
FollowsAt Kept s t at (next a p) o' = (at ≤ p) × (Alike s t p → o' ≡ next a p)
FollowsAt Kept s t at (stop x p) o' = (at ≤ p) × (Kept x → AlikeAt s t p → o' ≡ stop x p)

pub record Follows (Kept : ℕ → Type 0) (s t : List ℕ) {A : Type 0} (at : ℕ) (o o' : Out A) : Type 0 where
  pub is : FollowsAt Kept s t at o o'

-- what the first test allows the second allows, and nothing else where 3 stays
pub record Wider (Kept : ℕ → Type 0) (test test' : ℕ → Bool) : Type 0 where
  pub passes : (v : ℕ) → test v ≡ true → test' v ≡ true
  pub same : Kept 3 → (v : ℕ) → test v ≡ false → test' v ≡ false

-- and so for the ranges
pub record Freer (Kept : ℕ → Type 0) (w w' : Ranges) : Type 0 where
  pub address : Wider Kept w.address w'.address
  pub load : Wider Kept w.load w'.load
  pub value : Wider Kept w.value w'.value

-- m levels may stand for n: no fewer, and no more where 22 stays
pub record Levels (Kept : ℕ → Type 0) (n m : ℕ) : Type 0 where
  pub most : n ≤ m
  pub same : Kept 22 → n ≡ m

module _ {Kept : ℕ → Type 0} {s t : List ℕ} where
  -- by what is answered further on
  on : {A : Type 0} {at p : ℕ} (o o₁ o₂ : Out A) → at ≤ p → Follows Kept s t p o o₁ → ((u : ℕ) → p ≤ u → Alike s t u → o₂ ≡ o₁) → Follows Kept s t at o o₂
  on (next a u) o₁ o₂ l L h = record { is = (omega (arith, L.is.0), λ A. h u L.is.0 A ∙ L.is.1 A) }
  on (stop x u) o₁ o₂ l L h = record { is = (omega (arith, L.is.0), λ k A. h u L.is.0 A.here ∙ L.is.1 k A) }

  bind : {A B : Type 0} {at : ℕ} (f g : A → ℕ → Out B) (o o' : Out A) → Follows Kept s t at o o' → ((a : A) (p : ℕ) → o ≡ next a p → Follows Kept s t p (f a p) (g a p))
      → Follows Kept s t at (onward f o) (onward g o')
  bind f g (next a p) o' L h = on (f a p) (g a p) (onward g o') L.is.0 (h a p refl) (λ u l A. ap (onward g) (L.is.1 (λ i k. A i (omega arith))))
  bind f g (stop x p) o' L h = record { is = (L.is.0, λ k A. ap (onward g) (L.is.1 k A)) }

  -- the same answer here, whatever the texts are
  given : {A : Type 0} (a : A) (p : ℕ) → Follows Kept s t p (next a p) (next a p)
  given a p = record { is = (le_refl p, λ A. refl) }

  refused : {A : Type 0} (x p : ℕ) → Follows Kept s t {A = A} p (stop x p) (stop x p)
  refused x p = record { is = (le_refl p, λ k A. refl) }

  passed : {A : Type 0} (at : ℕ) (o o' : Out A) → Follows Kept s t (at + 1) o o' → Follows Kept s t at o o'
  passed at o o' L = on o o' o' (omega arith) L (λ u l A. refl)

  spaced : {A : Type 0} (r r' : ℕ → Out A) (at : ℕ) → Follows Kept s t (skipped s at) (r (skipped s at)) (r' (skipped s at)) → Follows Kept s t at (r (skipped s at)) (r' (skipped t at))
  spaced r r' at L = on (r (skipped s at)) (r' (skipped s at)) (r' (skipped t at)) (skip_on s at) L (λ u l A. ap r' (skip-alike s t at u A l))

  -- what was read, and the spaces behind it
  given-spaced : {A : Type 0} (a : A) (p : ℕ) → Follows Kept s t p (next a (skipped s p)) (next a (skipped t p))
  given-spaced a p = spaced (next a) (next a) p (given a (skipped s p))

  chosen : {A : Type 0} (x : ℕ) (r r' q q' : Reader A) (at : ℕ) → (byte s at ≡ x → Follows Kept s t at (r s at) (q t at)) → Follows Kept s t at (r' s at) (q' t at)
      → Follows Kept s t at (if_byte x r r' s at) (if_byte x q q' t at)
  chosen x r r' q q' at h k = go (is x s at) refl
    where
      go : (b : Bool) → is x s at ≡ b → Follows Kept s t at (choose b r r' s at) (if_byte x q q' t at)
      go true e = on (r s at) (q t at) _ (le_refl at) (h (eqb-true (byte s at) x e)) (λ u l A. rw (← A at l, e))
      go false e = on (r' s at) (q' t at) _ (le_refl at) k (λ u l A. rw (← A at l, e))

  sign-follows : (x at : ℕ) → Follows Kept s t at (sign x s at) (sign x t at)
  unfolding sign
  sign-follows x at = go (is x s at) refl
    where
      go : (b : Bool) → is x s at ≡ b → Follows Kept s t {A = Unit {0}} at (cond b (next (tt {0}) (at + 1)) (stop 21 at)) (cond (is x t at) (next (tt {0}) (at + 1)) (stop 21 at))
      go true e = record { is = (omega arith, λ A. rw (← A at (omega arith), e)) }
      go false e = record { is = (le_refl at, λ k A. rw (← A.here at (le_refl at), e)) }

  number-follows : (test test' : ℕ → Bool) (at : ℕ) → Wider Kept test test' → Due s at → Follows Kept s t at (number_in test s at) (number_in test' t at)
  unfolding unless number number_of
  number-follows test test' at W due = go (unfit ds) (test v) refl refl
    where
      ds : List ℕ
      ds = digits (drop at s)

      v : ℕ
      v = value_by 0 ds

      -- the digits are the same, and so is what the second test makes of them
      same : Alike s t (at + length ds) → digits (drop at t) ≡ ds
      same A = front-alike is_digit s t at (at + length ds) refl A (le_refl _)

      go : (u b : Bool) → unfit ds ≡ u → test v ≡ b
          → Follows Kept s t at (tested 3 test at (cond u (stop 21 at) (next v (at + length ds)))) (tested 3 test' at (number_of (digits (drop at t)) at))
      go true b e f = record { is = (le_refl at, λ k A. rw (same (A.number due), e)) }
      go false true e f = rw f (record { is = (omega arith, λ A. rw (same A, e, W.passes v f)) })
      go false false e f = rw f (record { is = (le_refl at, λ k A. rw (same (A.number due), e, W.same k v f)) })

  -- ---- equations

  label-follows : (test test' : ℕ → Bool) (at : ℕ) → Wider Kept test test' → Due s (at + 1) → Follows Kept s t at (label test s at) (label test' t at)
  unfolding label
  label-follows test test' at W due = passed at _ _ (bind _ _ _ _ (number-follows test test' (at + 1) W due) (λ n p e. given-spaced n p))

  valued-follows : (test test' : ℕ → Bool) (at : ℕ) → Wider Kept test test' → Follows Kept s t at (valued test s at) (valued test' t at)
  unfolding valued
  valued-follows test test' at W =
      bind _ _ _ _ (sign-follows equals at)
      (λ u p e. spaced (λ i. onward (λ v q. next v (skipped s q)) (number_in test s i)) (λ i. onward (λ v q. next v (skipped t q)) (number_in test' t i)) p
      (bind _ _ _ _ (number-follows test test' (skipped s p) W (due p e)) (λ v q f. given-spaced v q)))
    where
      due : {u : Unit {0}} (p : ℕ) → sign equals s at ≡ next u p → Due s (skipped s p)
      due p e = let k = sign_passed s equals at p e in inr (inr (record { at = at; here = k.0; place = rw k.1 }))

  equation-follows : (test test' values values' : ℕ → Bool) (make : ℕ → ℕ → Factor) (at : ℕ) → Wider Kept test test' → Wider Kept values values' → Due s (at + 1)
      → Follows Kept s t at (equation_by test values make s at) (equation_by test' values' make t at)
  unfolding equation_by
  equation-follows test test' values values' make at W Z due =
      bind _ _ _ _ (label-follows test test' at W due) (λ n p e. bind _ _ _ _ (valued-follows values values' p Z) (λ v q f. given (make n v) q))

  equations_follow : (w w' : Ranges) (at : ℕ) → Freer Kept w w' → Follows Kept s t at (equation_at w s at) (equation_at w' t at)
  unfolding equation_at
  equations_follow w w' at W =
      chosen letter_m (equation_by w.address w.value memory_is) _ (equation_by w'.address w'.value memory_is) _ at
      (λ e. equation-follows w.address w'.address w.value w'.value memory_is at W.address W.value (inl (record { at = at; here = e; place = refl })))
      (chosen letter_e (equation_by w.load w.value load_is) (λ t i. stop 21 i) (equation_by w'.load w'.value load_is) (λ t i. stop 21 i) at
      (λ e. equation-follows w.load w'.load w.value w'.value load_is at W.load W.value (inr (inl (record { at = at; here = e; place = refl }))))
      (refused 21 at))

  -- ---- what is joined and nested

  joined-follows : {A B : Type 0} (x y : ℕ) (one : A → B) (more : A → B → B) (operand operand' : Reader A) (rest rest' : Reader B) (at : ℕ)
      → Follows Kept s t at (operand s at) (operand' t at) → ((p : ℕ) → Follows Kept s t p (rest s p) (rest' t p))
      → Follows Kept s t at (joined x y one more operand rest s at) (joined x y one more operand' rest' t at)
  joined-follows x y one more operand operand' rest rest' at first others =
      bind _ _ _ _ first (λ a p e. chosen x (behind_sign y (more a) rest) (give (one a)) (behind_sign y (more a) rest') (give (one a)) p
      (λ f. passed p _ _ (bind _ _ _ _ (sign-follows y (p + 1))
      (λ u q g. spaced (λ i. onward (λ b r. next (more a b) r) (rest s i)) (λ i. onward (λ b r. next (more a b) r) (rest' t i)) q
      (bind _ _ _ _ (others (skipped s q)) (λ b r h. given (more a b) r)))))
      (given (one a) p))

  nested-follows : {A : Type 0} (n m : ℕ) (inner inner' : ℕ → Reader A) (at : ℕ) → Levels Kept n m → ((i j p : ℕ) → Levels Kept i j → Follows Kept s t p (inner i s p) (inner' j t p))
      → Follows Kept s t at (nested n inner s at) (nested m inner' t at)
  nested-follows zero zero inner inner' at l h = refused 22 at
  nested-follows zero (suc m) inner inner' at l h = record { is = (le_refl at, λ k A. absurd (omega (arith, l.same k))) }
  nested-follows (suc n) zero inner inner' at l h = absurd (omega (arith, l.most))
  nested-follows (suc n) (suc m) inner inner' at l h =
      passed at _ _ (spaced (λ i. inner n s i) (λ i. inner' m t i) (at + 1) (h n m (skipped s (at + 1)) (record { most = omega (arith, l.most); same = λ k. omega (arith, l.same k) })))

  module _ (w w' : Ranges) (W : Freer Kept w w') where
    mutual
      unfolding condition_by

      pub follows_C : (f n m at : ℕ) → Levels Kept n m → Follows Kept s t at (condition_by f w n s at) (condition_by f w' m t at)
      follows_C zero n m at l = refused 21 at
      follows_C (suc f) n m at l =
          joined-follows backslash slash a_term or_else (λ s i. term_by f w n s i) (λ s i. term_by f w' m s i) (λ s i. condition_by f w n s i) (λ s i. condition_by f w' m s i) at
          (follows-T f n m at l) (λ p. follows_C f n m p l)

      pub follows-T : (f n m at : ℕ) → Levels Kept n m → Follows Kept s t at (term_by f w n s at) (term_by f w' m t at)
      follows-T zero n m at l = refused 21 at
      follows-T (suc f) n m at l =
          joined-follows slash backslash a_factor and_also (λ s i. factor_by f w n s i) (λ s i. factor_by f w' m s i) (λ s i. term_by f w n s i) (λ s i. term_by f w' m s i) at
          (follows_F f n m at l) (λ p. follows-T f n m p l)

      pub follows_F : (f n m at : ℕ) → Levels Kept n m → Follows Kept s t at (factor_by f w n s at) (factor_by f w' m t at)
      follows_F zero n m at l = refused 21 at
      follows_F (suc f) n m at l =
          chosen tilde (nested n (λ i. negated (λ s p. factor_by f w i s p))) _ (nested m (λ i. negated (λ s p. factor_by f w' i s p))) _ at
          (λ e. nested-follows n m (λ i. negated (λ s p. factor_by f w i s p)) (λ i. negated (λ s p. factor_by f w' i s p)) at l
          (λ i j p z. bind _ _ _ _ (follows_F f i j p z) (λ g q h. given (negation g) q)))
          (chosen opening (nested n (λ i. closed (λ s p. condition_by f w i s p))) (equation_at w) (nested m (λ i. closed (λ s p. condition_by f w' i s p))) (equation_at w') at
          (λ e. nested-follows n m (λ i. closed (λ s p. condition_by f w i s p)) (λ i. closed (λ s p. condition_by f w' i s p)) at l
          (λ i j p z. bind _ _ _ _ (follows_C f i j p z) (λ c q h. bind _ _ _ _ (sign-follows closing q) (λ u r k. given-spaced (bracketed c) r))))
          (equations_follow w w' at W))

-- ---- when as much is allowed, and when every number is

same_wider : (Kept : ℕ → Type 0) (test : ℕ → Bool) → Wider Kept test test
same_wider Kept test = record { passes = λ v h. h; same = λ k v h. h }

pub same_freer : (Kept : ℕ → Type 0) (w : Ranges) → Freer Kept w w
same_freer Kept w = record { address = same_wider Kept w.address; load = same_wider Kept w.load; value = same_wider Kept w.value }

any_wider : (Kept : ℕ → Type 0) (test : ℕ → Bool) → (Kept 3 → ⊥) → Wider Kept test (λ v. true)
any_wider Kept test n = record { passes = λ v h. refl; same = λ k v h. absurd (n k) }

pub free_freer : (Kept : ℕ → Type 0) (w : Ranges) → (Kept 3 → ⊥) → Freer Kept w free
free_freer Kept w n = record { address = any_wider Kept w.address n; load = any_wider Kept w.load n; value = any_wider Kept w.value n }

pub same_levels : (Kept : ℕ → Type 0) (n : ℕ) → Levels Kept n n
same_levels Kept n = record { most = le_refl n; same = λ k. refl }
