-- The closure of a relation is the least transitive relation that holds it.
-- Assumes nothing.
use Prim.Native.Nat.{ℕ, zero, suc, ◌<◌}
use native.Mathlib.Omega.{arith}
use native.Mathlib.Decide.{dec_lt, ℕ_discrete}
use mathlib.Core.Path.{◌≡◌, sym, ap, ◌∙◌}
use mathlib.Core.Bool.{Bool, true, false, not, ◌&&◌, ◌||◌, true≢false}
use mathlib.Core.Logic.{◌⊎◌, inl, inr, ◌↔◌}
use mathlib.Core.List.{[]}
use borrow.Author.Tests.{not-true}
use Rattle.finite.specs.Lists.{table}
use Rattle.finite.proofs.Tests.{and_l, and_r, and_i, or_l, or_r, or_e, all_get, all_make, is_false}
use Rattle.finite.proofs.Lists.{table_get, table_past, table_same}
use Rattle.storage_model.specs.Relation.{Path, edge, then, Relation, relation, related, by_way_of, reached, closure, irreflexive, acyclic}

-- what a table of a relation holds
pub related_in : (k : ℕ) (f : ℕ → ℕ → Bool) (a b : ℕ) → a < k → b < k → related (relation k f) a b ≡ f a b
unfolding related relation
related_in k f a b la lb = rw (table_get k (λ a. table 0 k (f a)) a [] la) (table_get k (f a) b false lb)

record Related (k : ℕ) (f : ℕ → ℕ → Bool) (a b : ℕ) : Type 0 where
  first : a < k
  second : b < k
  holds : f a b ≡ true

related_is : (k : ℕ) (f : ℕ → ℕ → Bool) (a b : ℕ) → related (relation k f) a b ≡ true → Related k f a b
related_is k f a b h = by (dec_lt a k) (dec_lt b k)
  where
    by : Dec (a < k) → Dec (b < k) → Related k f a b
    by (yes la) (yes lb) = record { first = la; second = lb; holds = sym (related_in k f a b la lb) ∙ h }
    by (yes la) (no db) =
        let none : related (relation k f) a b ≡ false =
        unfold related relation in rw (table_get k (λ a. table 0 k (f a)) a [] la) (table_past 0 k (f a) b false (omega arith)) in
        absurd (true≢false (sym h ∙ none))
    by (no da) lb =
        let none : related (relation k f) a b ≡ false =
        unfold related relation in rw (table_past 0 k (λ a. table 0 k (f a)) a [] (omega arith)) in
        absurd (true≢false (sym h ∙ none))

-- the table of f goes by the numbers below k alone
pub relation-same : (k : ℕ) (f g : ℕ → ℕ → Bool) → ((a b : ℕ) → a < k → b < k → f a b ≡ g a b) → relation k f ≡ relation k g
unfolding relation
relation-same k f g e =
    table_same 0 k (λ a. table 0 k (f a)) (λ a. table 0 k (g a))
    (λ a _ la. table_same 0 k (f a) (g a) (λ b _ lb. e a b (omega arith) (omega arith)))

module _ (k : ℕ) where
  -- the turn of `reached`
  more : (f : ℕ → ℕ → Bool) (j a b : ℕ) → related (reached k (suc j) f) a b ≡ true
      → (a < k) × (b < k) × ((related (reached k j f) a b ≡ true) ⊎ ((related (reached k j f) a j ≡ true) × (related (reached k j f) j b ≡ true)))
  unfolding reached
  more f j a b h =
      let r : Relation = reached k j f in
      let R = related_is k (λ a b. related r a b || (related r a j && related r j b)) a b h in (
        R.first,
        R.second,
        or_e (related r a b) (related r a j && related r j b) inl
            (λ t. inr (and_l (related r a j) (related r j b) t, and_r (related r a j) (related r j b) t)) R.holds,
      )

  step_old : (f : ℕ → ℕ → Bool) (j a b : ℕ) → a < k → b < k → related (reached k j f) a b ≡ true → related (reached k (suc j) f) a b ≡ true
  unfolding reached
  step_old f j a b la lb h =
      let r : Relation = reached k j f in
      related_in k (λ a b. related r a b || (related r a j && related r j b)) a b la lb
      ∙ or_l (related r a b) (related r a j && related r j b) h

  step_new : (f : ℕ → ℕ → Bool) (j a b : ℕ) → a < k → b < k → related (reached k j f) a j ≡ true → related (reached k j f) j b ≡ true
      → related (reached k (suc j) f) a b ≡ true
  unfolding reached
  step_new f j a b la lb h g =
      let r : Relation = reached k j f in
      related_in k (λ a b. related r a b || (related r a j && related r j b)) a b la lb
      ∙ or_r (related r a b) (related r a j && related r j b) (and_i (related r a j) (related r j b) h g)

  reached-within : (f : ℕ → ℕ → Bool) (j a b : ℕ) → related (reached k j f) a b ≡ true → (a < k) × (b < k)
  reached-within f zero a b h = let R = related_is k f a b (unfold reached in h) in (R.first, R.second)
  reached-within f (suc j) a b h = let m = more f j a b h in (m.0, m.1)

  -- through any number below j
  reached-through : (f : ℕ → ℕ → Bool) (j a b c : ℕ) → b < j → related (reached k j f) a b ≡ true → related (reached k j f) b c ≡ true
      → related (reached k j f) a c ≡ true
  reached-through f zero a b c l h g = absurd (omega arith)
  reached-through f (suc j) a b c l h g =
      let m = more f j a b h in
      let n = more f j b c g in
      by (λ x y z. reached-through f j x y z) (ℕ_discrete b j) m.0 n.1 m.2 n.2
    where
      Via : ℕ → ℕ → Type 0
      Via x y = related (reached k j f) x y ≡ true

      to_j : b ≡ j → Via a b ⊎ (Via a j × Via j b) → Via a j
      to_j e (inl u) = rw e at u
      to_j e (inr u) = u.0

      from_j : b ≡ j → Via b c ⊎ (Via b j × Via j c) → Via j c
      from_j e (inl u) = rw e at u
      from_j e (inr u) = u.1

      Through : Type 0
      Through = (x y z : ℕ) → y < j → Via x y → Via y z → Via x z

      low : Through → b < j → a < k → c < k → Via a b ⊎ (Via a j × Via j b) → Via b c ⊎ (Via b j × Via j c) → related (reached k (suc j) f) a c ≡ true
      low t lb la lc (inl u) (inl v) = step_old f j a c la lc (t a b c lb u v)
      low t lb la lc (inl u) (inr v) = step_new f j a c la lc (t a b j lb u v.0) v.1
      low t lb la lc (inr u) (inl v) = step_new f j a c la lc u.0 (t j b c lb u.1 v)
      low t lb la lc (inr u) (inr v) = step_new f j a c la lc u.0 v.1

      by : Through → Dec (b ≡ j) → a < k → c < k → Via a b ⊎ (Via a j × Via j b) → Via b c ⊎ (Via b j × Via j c) → related (reached k (suc j) f) a c ≡ true
      by t (yes e) la lc u v = step_new f j a c la lc (to_j e u) (from_j e v)
      by t (no d) la lc u v = low t (omega arith) la lc u v

  reached-holds : (f : ℕ → ℕ → Bool) (j a b : ℕ) → a < k → b < k → f a b ≡ true → related (reached k j f) a b ≡ true
  reached-holds f zero a b la lb h = unfold reached in related_in k f a b la lb ∙ h
  reached-holds f (suc j) a b la lb h = step_old f j a b la lb (reached-holds f j a b la lb h)

  -- S is transitive and holds f
  module _ (f : ℕ → ℕ → Bool) (S : ℕ → ℕ → Type 0)
      (base : (a b : ℕ) → a < k → b < k → f a b ≡ true → S a b) (trans : (a b c : ℕ) → S a b → S b c → S a c) where
    reached-least : (j a b : ℕ) → related (reached k j f) a b ≡ true → S a b
    reached-least zero a b h = let R = related_is k f a b (unfold reached in h) in base a b R.first R.second R.holds
    reached-least (suc j) a b h = by (λ x y. reached-least j x y) (more f j a b h).2
      where
        by : ((x y : ℕ) → related (reached k j f) x y ≡ true → S x y) → (related (reached k j f) a b ≡ true) ⊎ ((related (reached k j f) a j ≡ true) × (related (reached k j f) j b ≡ true)) → S a b
        by t (inl u) = t a b u
        by t (inr u) = trans a j b (t a j u.0) (t j b u.1)

    -- the closure is within every transitive relation that holds f
    pub closure-least : (a b : ℕ) → related (closure k f) a b ≡ true → S a b
    unfolding closure
    closure-least a b h = reached-least k a b h

  -- it relates numbers below k
  pub closure-within : (f : ℕ → ℕ → Bool) (a b : ℕ) → related (closure k f) a b ≡ true → (a < k) × (b < k)
  unfolding closure
  closure-within f a b h = reached-within f k a b h

  -- it holds f
  pub closure-holds : (f : ℕ → ℕ → Bool) (a b : ℕ) → a < k → b < k → f a b ≡ true → related (closure k f) a b ≡ true
  unfolding closure
  closure-holds f a b la lb h = reached-holds f k a b la lb h

  -- it is transitive
  pub closure-transitive :
      (f : ℕ → ℕ → Bool) (a b c : ℕ) → related (closure k f) a b ≡ true → related (closure k f) b c ≡ true → related (closure k f) a c ≡ true
  unfolding closure
  closure-transitive f a b c h g = reached-through f k a b c (reached-within f k a b h).1 h g

  table_again : (f : ℕ → ℕ → Bool) → relation k f ≡ relation k (related (relation k f))
  table_again f = relation-same k f (related (relation k f)) (λ a b la lb. sym (related_in k f a b la lb))

  reached-table : (f : ℕ → ℕ → Bool) (j : ℕ) → reached k j f ≡ relation k (related (reached k j f))
  unfolding reached
  reached-table f zero = table_again f
  reached-table f (suc j) = table_again _

  -- it is a table of the numbers below k
  pub closure-table : (f : ℕ → ℕ → Bool) → closure k f ≡ relation k (related (closure k f))
  unfolding closure
  closure-table f = reached-table f k

  reached-same : (f g : ℕ → ℕ → Bool) → ((a b : ℕ) → a < k → b < k → f a b ≡ g a b) → (j : ℕ) → reached k j f ≡ reached k j g
  unfolding reached
  reached-same f g e zero = relation-same k f g e
  reached-same f g e (suc j) = ap (by_way_of k j) (reached-same f g e j)

  -- it goes by the numbers below k alone
  pub closure-same : (f g : ℕ → ℕ → Bool) → ((a b : ℕ) → a < k → b < k → f a b ≡ g a b) → closure k f ≡ closure k g
  unfolding closure
  closure-same f g e = reached-same f g e k

  pub acyclic-same : (f g : ℕ → ℕ → Bool) → ((a b : ℕ) → a < k → b < k → f a b ≡ g a b) → acyclic k f ≡ acyclic k g
  unfolding acyclic
  acyclic-same f g e = ap (irreflexive k) (closure-same f g e)

  -- where there is no cycle, it relates no number to itself
  pub acyclic_is : (f : ℕ → ℕ → Bool) → acyclic k f ≡ true → (a : ℕ) → related (closure k f) a a ≡ true → ⊥
  unfolding acyclic irreflexive
  acyclic_is f h a t =
      true≢false (sym t ∙ not-true _ (all_get k (λ a. not (related (closure k f) a a)) h a (closure-within f a a t).0))

-- ---- paths

path_closure : (k : ℕ) (f : ℕ → ℕ → Bool) {a b : ℕ} → Path k f a b → related (closure k f) a b ≡ true
path_closure k f (edge la lb h) = closure-holds k f _ _ la lb h
path_closure k f (then p q) = closure-transitive k f _ _ _ (path_closure k f p) (path_closure k f q)

-- the closure is what paths lead to
pub closure-iff : (k : ℕ) (f : ℕ → ℕ → Bool) (a b : ℕ) → (related (closure k f) a b ≡ true) ↔ Path k f a b
closure-iff k f a b = (closure-least k f (Path k f) (λ a b la lb h. edge la lb h) (λ a b c p q. then p q) a b, path_closure k f)

-- there is no cycle: no path leads from a number to itself
pub acyclic-iff : (k : ℕ) (f : ℕ → ℕ → Bool) → (acyclic k f ≡ true) ↔ ((a : ℕ) → Path k f a a → ⊥)
unfolding acyclic irreflexive
acyclic-iff k f = (
  λ h a p. acyclic_is k f h a (path_closure k f p),
  λ h. all_make k (λ a. not (related (closure k f) a a)) (λ a l. ap not (is_false (λ t. h a ((closure-iff k f a a).0 t)))),
)
