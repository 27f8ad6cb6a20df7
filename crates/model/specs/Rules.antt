-- The model's rules (01, "The model's rules"), the verdict and the finals.
-- Assumes nothing.
use Rattle.std.specs.Prelude.{ℕ, Bool, true, false, not, cond, ◌&&◌, ◌||◌, List, [], ◌∷◌, map, eqb, ltb, get_or}
use Rattle.finite.specs.Tests.{all, some, ◌⇒◌}
use Rattle.finite.specs.Lists.{table}
use Rattle.bits.specs.Bit.{bit}
use Rattle.model.specs.Limits.{most_addresses}
use Rattle.model.specs.Case.{Case, no_event, load, store, sync, bare}

-- the rules' numbers go from the first to the last
abbrev pub first_rule : ℕ
first_rule = 11

abbrev pub last_rule : ℕ
last_rule = 18

-- 01: "Models: 0 is PPCw, 1 is PPCs"
pub data Model : Type 0 where
  PPCw : Model
  PPCs : Model

-- of a and b the list holds a first
unfoldable pub first : ℕ → ℕ → List ℕ → Bool
first a b [] = false
first a b (x ∷ xs) = elim (eqb x a) [ true ↦ true | false ↦ elim (eqb x b) [ true ↦ false | false ↦ first a b xs ] ]

-- the last number of the list, or else x
unfoldable pub last_of : ℕ → List ℕ → ℕ
last_of x [] = x
last_of x (y ∷ ys) = last_of y ys

-- some entry of the list passes the test
unfoldable pub among : {A : Type 0} → (A → Bool) → List A → Bool
among f [] = false
among f (a ∷ as') = f a || among f as'

-- the number where the test fails, and else the rest
abbrev pub or_else : Bool → ℕ → ℕ → ℕ
or_else true x rest = rest
or_else false x rest = x

module _ (c : Case) where
  open c use {n, m, k}

  unfoldable pub kind : ℕ → ℕ
  kind e = (get_or c.events e no_event).kind

  unfoldable pub thread : ℕ → ℕ
  thread e = (get_or c.events e no_event).thread

  unfoldable pub address : ℕ → ℕ
  address e = (get_or c.events e no_event).address

  unfoldable pub value : ℕ → ℕ
  value e = (get_or c.events e no_event).value

  unfoldable pub initial : ℕ → ℕ
  initial x = get_or c.initials x 0

  unfoldable pub is_load : ℕ → Bool
  is_load e = eqb (kind e) load

  unfoldable pub is_store : ℕ → Bool
  is_store e = eqb (kind e) store

  unfoldable pub is_sync : ℕ → Bool
  is_sync e = eqb (kind e) sync

  -- a sync, which is the one barrier of edition 1, or an lwsync
  unfoldable pub is_barrier : ℕ → Bool
  is_barrier e = bare (kind e)

  -- e is an event of thread p
  unfoldable pub of : ℕ → ℕ → Bool
  of p e = eqb (thread e) p

  -- neither is a barrier, and they use one address
  unfoldable pub one_address : ℕ → ℕ → Bool
  one_address a b = not (is_barrier a) && not (is_barrier b) && eqb (address a) (address b)

  -- b depends on a, by any class
  unfoldable pub depends : ℕ → ℕ → Bool
  depends a b = among (λ d. eqb d.from a && eqb d.to b) c.dependencies

  -- barrier f orders e before g: a sync any two events; an lwsync as 02 (vi) says: "where e and e' are loads or stores, except
  -- where e is a store and e' a load"
  unfoldable pub applicable : ℕ → ℕ → ℕ → Bool
  applicable f e g = is_sync f || (not (is_barrier e) && not (is_barrier g) && not (is_store e && is_load g))

  -- s is a store to the address of l
  unfoldable pub store_for : ℕ → ℕ → Bool
  store_for l s = is_store s && one_address l s

  -- a comes before b in p's order: 01: "The pairs are the whole order; nothing is added by closure"
  unfoldable pub before : ℕ → ℕ → ℕ → Bool
  before p a b = bit (get_or (get_or c.orders p []) a 0) b

  -- a comes before b in every thread's order
  unfoldable pub everywhere : ℕ → ℕ → Bool
  everywhere a b = all n λ q. before q a b

  -- store a stands before store b in the write order of a's address
  unfoldable pub written : ℕ → ℕ → Bool
  written a b = first a b (get_or c.writes (address a) [])

  -- 01: "stands in some pair of p's order"
  unfoldable pub paired : ℕ → ℕ → Bool
  paired p e = some k λ x. before p e x || before p x e

  -- e is in V(p): 01, amended by 02 (i): "every event that stands in some pair of p's order", and "every event of thread p"
  unfoldable pub seen : ℕ → ℕ → Bool
  seen p e = paired p e || of p e

  -- load l reads from store s: 01: "both use one address and, in the order of l's thread, s precedes l and every other
  -- store to that address that precedes l also precedes s"
  unfoldable pub reads_from : ℕ → ℕ → Bool
  reads_from l s =
      is_load l && store_for l s && before (thread l) s l
      && (all k λ x. (store_for l x && not (eqb x s) && before (thread l) x l) ⇒ before (thread l) x s)

  -- 01: "each thread's order is irreflexive and transitive"
  unfoldable pub rule11 : Bool
  rule11 =
      all n λ p. all k λ a. not (before p a a)
      && (all k λ b. before p a b ⇒ (all k λ d. before p b d ⇒ before p a d))

  -- 01: "it orders every two distinct events of that thread"
  unfoldable pub rule12 : Bool
  rule12 = all n λ p. all k λ a. of p a ⇒ (all k λ b. (of p b && not (eqb a b)) ⇒ (before p a b || before p b a))

  -- 01: "of two events of thread p, the earlier listed comes first in p's order if either is a sync or both use one address";
  -- 02 (vi): "also orders dependent pairs and treats lwsync as it does sync"
  unfoldable pub rule13 : Bool
  rule13 =
      all n λ p. all k λ b. of p b
      ⇒ (all b λ a. (of p a && (is_barrier a || is_barrier b || one_address a b || depends a b)) ⇒ before p a b)

  -- Coherence. 01: "stores to one address that p orders stand the same way in the write order"
  unfoldable pub rule14 : Bool
  rule14 = all n λ p. all k λ a. is_store a ⇒ (all k λ b. (store_for a b && before p a b) ⇒ written a b)

  -- the loads that 15 and 16 speak of at p: 01: "PPCw applies 15 and 16 to thread p's own loads, PPCs to every load in V(p)"
  unfoldable pub judged : Model → ℕ → ℕ → Bool
  judged PPCw p l = is_load l && of p l
  judged PPCs p l = is_load l && seen p l

  -- V1. 01: "a load holds the initial value, or some store to its address comes before it"
  unfoldable pub rule15 : Model → Bool
  rule15 w =
      all n λ p. all k λ l. judged w p l
      ⇒ (eqb (value l) (initial (address l)) || (some k λ s. store_for l s && before p s l))

  -- V2. 01: "for each store s to its address in V(p): another store to that address lies between s and the load, or the
  -- values are equal, or the load comes before s"
  unfoldable pub rule16 : Model → Bool
  rule16 w =
      all n λ p. all k λ l. judged w p l ⇒ (all k λ s. (store_for l s && seen p s)
      ⇒ ((some k λ x. store_for l x && not (eqb x s) && before p s x && before p x l) || eqb (value l) (value s) || before p l s))

  -- F1. 01: "if e comes before sync f of thread p, and f before e' of thread p, in p's order, then e comes before e' in
  -- every thread's order"; of an lwsync, where it is applicable
  unfoldable pub rule17 : Bool
  rule17 =
      all n λ p. all k λ f. (is_barrier f && of p f)
      ⇒ (all k λ e. before p e f ⇒ (all k λ g. (of p g && before p f g && applicable f e g) ⇒ everywhere e g))

  -- F2. 01: "if e, then f of p, then store s of p stand so in p's order, load l reads from s, and l comes before e' in the
  -- order of l's thread, then e comes before e' in every thread's order"; of an lwsync, where it is applicable
  unfoldable pub rule18 : Bool
  rule18 =
      all n λ p. all k λ f. (is_barrier f && of p f)
      ⇒ (all k λ s. (is_store s && of p s && before p f s)
      ⇒ (all k λ l. reads_from l s
      ⇒ (all k λ g. before (thread l) l g ⇒ (all k λ e. (before p e f && applicable f e g) ⇒ everywhere e g))))

  -- 01's "verdict": "The answer is the lowest broken number", or 0
  unfoldable pub verdict : Model → ℕ
  verdict w =
      or_else rule11 11 (or_else rule12 12 (or_else rule13 13 (or_else rule14 14
      (or_else (rule15 w) 15 (or_else (rule16 w) 16 (or_else rule17 17 (or_else rule18 18 0)))))))

  -- 01: "the last store in the address's write order, or else the initial value; 0 from address m on"
  unfoldable pub final : ℕ → ℕ
  final x = cond (ltb x m) (last_of (initial x) (map value (get_or c.writes x []))) 0

  -- 01's "finals": the final memory
  unfoldable pub finals : List ℕ
  finals = table 0 most_addresses final
