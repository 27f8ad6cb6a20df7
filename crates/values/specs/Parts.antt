-- Rules 15 to 18 at one event, as they are tested.
-- Assumes nothing.
use Rattle.std.specs.Prelude.{ℕ, Bool, not, ◌&&◌, ◌||◌, List, eqb, get_or}
use Rattle.finite.specs.Tests.{all, some, ◌⇒◌}
use Rattle.rows.specs.May.{Relation}

-- the numbers at two events are equal
abbrev pub equal_in : List ℕ → ℕ → ℕ → Bool
equal_in values l s = eqb (get_or values l 0) (get_or values s 0)

-- the thread of an event
abbrev pub thread_in : List ℕ → ℕ → ℕ
thread_in threads e = get_or threads e 0

-- of k events; asked and known are one thread's orders
module _ (k : ℕ) where
  -- 15 at l
  abbrev pub supplied : (judged fresh : ℕ → Bool) (store_for asked : ℕ → ℕ → Bool) → ℕ → Bool
  supplied judged fresh store_for asked l = judged l ⇒ (fresh l || (some k λ s. store_for l s && asked s l))

  -- 16 at l and s, those: the stores to l's address that are seen; between: those that come before l
  abbrev pub explained : (those between : ℕ → Bool) (equal asked : ℕ → ℕ → Bool) → ℕ → ℕ → Bool
  explained those between equal asked l s =
      those s ⇒ ((some k λ x. between x && asked s x && not (eqb x s)) || equal l s || asked l s)

  -- 16 at l
  abbrev pub overwritten : (judged seen : ℕ → Bool) (store_for equal asked : ℕ → ℕ → Bool) → ℕ → Bool
  overwritten judged seen store_for equal asked l =
      judged l ⇒ (all k λ s. (store_for l s && seen s)
      ⇒ ((some k λ x. store_for l x && not (eqb x s) && asked s x && asked x l) || equal l s || asked l s))

  -- of n threads: every event e of first comes before each event g of then for which `applies e g`, in every thread's order
  abbrev pub carried : (n : ℕ) (first then : ℕ → Bool) (applies : ℕ → ℕ → Bool) (asked : Relation) → Bool
  carried n first then applies asked = all k λ e. first e ⇒ (all n λ q. all k λ g. (then g && applies e g) ⇒ asked q e g)

  -- 17 at f, own: the thread's events
  abbrev pub cumulative : (n : ℕ) (own barrier : ℕ → Bool) (applicable : ℕ → ℕ → ℕ → Bool) (known : ℕ → ℕ → Bool) (asked : Relation) → ℕ → Bool
  cumulative n own barrier applicable known asked f =
      (barrier f && own f)
      ⇒ (all k λ e. known e f ⇒ (all k λ g. (own g && known f g && applicable f e g) ⇒ (all n λ q. asked q e g)))

  -- load l must read from s: sources are the stores to its address, rivals those that may come before it
  abbrev pub must_read_of : (sources rivals : ℕ → Bool) (known : ℕ → ℕ → Bool) → ℕ → ℕ → Bool
  must_read_of sources rivals known l s = sources s && known s l && (all k λ x. (rivals x && not (eqb x s)) ⇒ known x s)

  -- what comes after a load that must read from an event of the set, in the order of the load's thread
  abbrev pub reached : (read : ℕ → ℕ → Bool) (thread : ℕ → ℕ) (known : Relation) (set : ℕ → Bool) → ℕ → Bool
  reached read thread known set g = some k λ l. (some k λ s. read l s && set s) && known (thread l) l g

  -- 18 at f
  abbrev pub carried_on : (n : ℕ) (own barrier : ℕ → Bool) (applicable : ℕ → ℕ → ℕ → Bool) (is_store : ℕ → Bool) (read : ℕ → ℕ → Bool) (thread : ℕ → ℕ) (p : ℕ) (known asked : Relation) → ℕ → Bool
  carried_on n own barrier applicable is_store read thread p known asked f =
      (barrier f && own f) ⇒ (all k λ s. (is_store s && own s && known p f s)
      ⇒ (all k λ l. read l s
      ⇒ (all k λ g. known (thread l) l g ⇒ (all k λ e. (known p e f && applicable f e g) ⇒ (all n λ q. asked q e g)))))
