-- Which rules two orders may still obey: known holds what is presupposed, asked what a rule asks for. Where both are a
-- case's order, each says what the model's rule says.
-- Assumes nothing.
use Rattle.std.specs.Prelude.{ℕ, Bool, not, ◌&&◌, ◌||◌, eqb}
use Rattle.finite.specs.Tests.{all, some, ◌⇒◌}

-- in p's order a comes before b
abbrev pub Relation : Type 0
Relation = ℕ → ℕ → ℕ → Bool

-- e stands in some pair of p's order, of k events
unfoldable pub pairs : ℕ → (known : Relation) → ℕ → ℕ → Bool
pairs k known p e = some k λ x. known p e x || known p x e

-- load l must read from store s, of k events
unfoldable pub must_read : (k : ℕ) (is_load : ℕ → Bool) (store_for : ℕ → ℕ → Bool) (thread : ℕ → ℕ) (known asked : Relation) → ℕ → ℕ → Bool
must_read k is_load store_for thread known asked l s =
    is_load l && store_for l s && known (thread l) s l
    && (all k λ x. (store_for l x && not (eqb x s) && asked (thread l) x l) ⇒ known (thread l) x s)

-- of n threads and k events. Each takes what it needs of the events: `of p e`, e is of thread p; `barrier e`; `is_store e`,
-- `is_load l`; `one_address a b`; `depends a b`, b depends on a; `store_for l s`, s is a store to the address of l;
-- `written a b`, in write order; `applicable f e g`, barrier f orders e before g
module _ (n k : ℕ) where
  unfoldable pub may11 : (known asked : Relation) → Bool
  may11 known asked =
      all n λ p. all k λ a. not (known p a a)
      && (all k λ b. known p a b ⇒ (all k λ d. known p b d ⇒ asked p a d))

  unfoldable pub may12 : (of : ℕ → ℕ → Bool) (asked : Relation) → Bool
  may12 of asked = all n λ p. all k λ a. of p a ⇒ (all k λ b. (of p b && not (eqb a b)) ⇒ (asked p a b || asked p b a))

  unfoldable pub may13 : (of : ℕ → ℕ → Bool) (barrier : ℕ → Bool) (one_address depends : ℕ → ℕ → Bool) (asked : Relation) → Bool
  may13 of barrier one_address depends asked =
      all n λ p. all k λ b. of p b
      ⇒ (all b λ a. (of p a && (barrier a || barrier b || one_address a b || depends a b)) ⇒ asked p a b)

  unfoldable pub may14 : (is_store : ℕ → Bool) (store_for written : ℕ → ℕ → Bool) (known : Relation) → Bool
  may14 is_store store_for written known = all n λ p. all k λ a. is_store a ⇒ (all k λ b. (store_for a b && known p a b) ⇒ written a b)

  -- `judged p l`: 15 and 16 speak of load l at p; `fresh l`: it holds the initial value
  unfoldable pub may15 : (judged : ℕ → ℕ → Bool) (fresh : ℕ → Bool) (store_for : ℕ → ℕ → Bool) (asked : Relation) → Bool
  may15 judged fresh store_for asked =
      all n λ p. all k λ l. judged p l ⇒ (fresh l || (some k λ s. store_for l s && asked p s l))

  -- `seen p s`: s is in V(p); `equal l s`: their values are
  unfoldable pub may16 : (judged seen store_for equal : ℕ → ℕ → Bool) (asked : Relation) → Bool
  may16 judged seen store_for equal asked =
      all n λ p. all k λ l. judged p l ⇒ (all k λ s. (store_for l s && seen p s)
      ⇒ ((some k λ x. store_for l x && not (eqb x s) && asked p s x && asked p x l) || equal l s || asked p l s))

  unfoldable pub may17 : (of : ℕ → ℕ → Bool) (barrier : ℕ → Bool) (applicable : ℕ → ℕ → ℕ → Bool) (known asked : Relation) → Bool
  may17 of barrier applicable known asked =
      all n λ p. all k λ f. (barrier f && of p f)
      ⇒ (all k λ e. known p e f ⇒ (all k λ g. (of p g && known p f g && applicable f e g) ⇒ (all n λ q. asked q e g)))

  -- `read l s`: load l must read from store s
  unfoldable pub may18 : (of : ℕ → ℕ → Bool) (barrier : ℕ → Bool) (applicable : ℕ → ℕ → ℕ → Bool) (is_store : ℕ → Bool) (read : ℕ → ℕ → Bool) (thread : ℕ → ℕ) (known asked : Relation) → Bool
  may18 of barrier applicable is_store read thread known asked =
      all n λ p. all k λ f. (barrier f && of p f)
      ⇒ (all k λ s. (is_store s && of p s && known p f s)
      ⇒ (all k λ l. read l s
      ⇒ (all k λ g. known (thread l) l g ⇒ (all k λ e. (known p e f && applicable f e g) ⇒ (all n λ q. asked q e g)))))
