-- A struct's sets against the case that it means, and the parts of its verdict.
-- Assumes nothing.
use Rattle.std.specs.Prelude.{ℕ, ◌≤◌, ◌<◌, ◌≡◌, Bool, true, not, ◌&&◌, ◌||◌, List, eqb, ltb, get_or}
use Rattle.std.specs.Int.Bits.{bit_or}
use Rattle.bits.specs.Bit.{bit}
use Rattle.model.specs.Case.{Case, load, store, sync}
use Rattle.model.specs.Rules.{Model, of, is_load, is_store, is_sync, is_barrier, one_address, depends, seen, judged, or_else, rule11, rule12, rule13, rule14, rule15, rule16, rule17, rule18}
use Rattle.model.specs.Limits.{most_threads, most_addresses, most_events, most_dependencies}
use Rattle.rows.specs.Sets.{Set, Sets, order_in, set_in, store_in, depends_in}
use Rattle.rows.specs.May.{Relation, pairs, may11, may12, may13, may14, may15, may16, may17, may18}
use Rattle.orders.specs.Parts.{written_in}
use Rattle.values.specs.Parts.{equal_in, thread_in}
use Rattle.by_columns.specs.Parts.{applies_in, read_in}
use Rattle.rules.specs.declared.EventSets.{EventSets}
use Rattle.rules.specs.declared.Model.{Model as Given}
use Rattle.rules.specs.declared.Model.TheVariants.{Ppcw, Ppcs}

-- the sets are the case's
pub record Agrees (c : Case) (g : EventSets) : Type 0 where
  pub own : (p : ℕ) → p < c.n → (e : ℕ) → e < c.k → set_in g.own p e ≡ of c p e
  pub load : (e : ℕ) → e < c.k → bit g.loads e ≡ is_load c e
  pub store : (e : ℕ) → e < c.k → bit g.stores e ≡ is_store c e
  pub barrier : (e : ℕ) → e < c.k → bit g.barriers e ≡ is_barrier c e
  pub sync : (e : ℕ) → e < c.k → bit g.syncs e ≡ is_sync c e
  pub partner : (a : ℕ) → a < c.k → (b : ℕ) → b < c.k → set_in g.partners a b ≡ one_address c a b
  pub dependent : (a : ℕ) → a < c.k → (b : ℕ) → b < c.k → set_in g.dependents a b ≡ depends c a b

-- by event of the set, those of the set among k events that use its address
abbrev pub shared_in : (k set : ℕ) (addresses : List ℕ) → ℕ → ℕ → Bool
shared_in k set addresses a b = bit set a && (bit set b && (ltb b k && eqb (get_or addresses b 0) (get_or addresses a 0)))

-- so many events and dependencies are within the limits, each load and store has an address, and each dependency goes from an event to an event
pub record InRange (k links : ℕ) (kinds addresses froms tos : List ℕ) : Type 0 where
  pub events : k ≤ most_events
  pub address : (e : ℕ) → e < k → (eqb (get_or kinds e 0) load || eqb (get_or kinds e 0) store) ≡ true → get_or addresses e 0 < most_addresses
  pub most : links ≤ most_dependencies
  pub from : (i : ℕ) → i < links → get_or froms i 0 < most_events
  pub to : (i : ℕ) → i < links → get_or tos i 0 < most_events

-- the sets are those of k events and of so many dependencies, by what a struct's arrays hold
pub record Sorted (k links : ℕ) (kinds threads addresses froms tos : List ℕ) (g : EventSets) : Type 0 where
  pub loads : Set g.loads (λ e. ltb e k && eqb (get_or kinds e 0) load)
  pub stores : Set g.stores (λ e. ltb e k && eqb (get_or kinds e 0) store)
  pub syncs : Set g.syncs (λ e. ltb e k && eqb (get_or kinds e 0) sync)
  pub barriers : Set g.barriers (λ e. ltb e k && not (bit (bit_or g.loads g.stores) e))
  pub own : Sets most_threads g.own (λ p e. ltb e k && eqb (get_or threads e 0) p)
  pub partners : Sets k g.partners (shared_in k (bit_or g.loads g.stores) addresses)
  pub dependents : Sets most_events g.dependents (depends_in froms tos links)

-- by thread, the sets are V(p)
pub record Seen (c : Case) (sets : List ℕ) : Type 0 where
  pub is : (p : ℕ) → p < c.n → (e : ℕ) → e < c.k → set_in sets p e ≡ seen c p e

-- by thread, the sets are the loads that rules 15 and 16 speak of
pub record Judged (c : Case) (w : Model) (sets : List ℕ) : Type 0 where
  pub is : (p : ℕ) → p < c.n → (l : ℕ) → l < c.k → set_in sets p l ≡ judged c w p l

-- by thread, of k events: what stands in some pair of its order, and its own
abbrev pub seen_in : (k : ℕ) (known own : List ℕ) → ℕ → ℕ → Bool
seen_in k known own p e = (ltb e k && pairs k (order_in known) p e) || set_in own p e

-- the loads of its own, or under PPCs of those seen
abbrev pub chosen_in : Given → (loads own seen : ℕ) → ℕ → Bool
chosen_in Ppcw loads own seen l = bit loads l && bit own l
chosen_in Ppcs loads own seen l = bit loads l && bit seen l

-- by thread, what 15 and 16 speak of
abbrev pub judged_in : Given → (loads : ℕ) (own seen : List ℕ) → ℕ → ℕ → Bool
judged_in model loads own seen p l = chosen_in model loads (get_or own p 0) (get_or seen p 0) l

-- a load that holds the initial value
abbrev pub fresh_in : (loads : ℕ) (values addresses initial : List ℕ) → ℕ → Bool
fresh_in loads values addresses initial l = bit loads l && eqb (get_or values l 0) (get_or initial (get_or addresses l 0) 0)

-- the lowest broken of some rules, or else 0
module _ (c : Case) where
  unfoldable pub order_verdict : ℕ
  order_verdict = or_else (rule11 c) 11 (or_else (rule12 c) 12 (or_else (rule13 c) 13 (or_else (rule14 c) 14 0)))

  unfoldable pub value_verdict : Model → ℕ
  value_verdict w = or_else (rule15 c w) 15 (or_else (rule16 c w) 16 0)

  unfoldable pub barrier_verdict : ℕ
  barrier_verdict = or_else (rule17 c) 17 (or_else (rule18 c) 18 0)

-- the same by a struct's rows and sets, of n threads and k events
module _ (n k : ℕ) where
  abbrev pub order_broken : (own : List ℕ) (barriers stores : ℕ) (partners dependents addresses writes rows : List ℕ) → ℕ
  order_broken own barriers stores partners dependents addresses writes rows =
      let before : Relation = order_in rows in
      or_else (may11 n k before before) 11
      (or_else (may12 n k (set_in own) before) 12
      (or_else (may13 n k (set_in own) (bit barriers) (set_in partners) (set_in dependents) before) 13
      (or_else (may14 n k (bit stores) (store_in stores partners) (written_in k stores partners addresses writes) before) 14 0)))

  abbrev pub value_broken : (judged seen : List ℕ) (fresh stores : ℕ) (partners values rows : List ℕ) → ℕ
  value_broken judged seen fresh stores partners values rows =
      let before : Relation = order_in rows in
      or_else (may15 n k (set_in judged) (bit fresh) (store_in stores partners) before) 15
      (or_else (may16 n k (set_in judged) (set_in seen) (store_in stores partners) (equal_in values) before) 16 0)

  abbrev pub barrier_broken : (own : List ℕ) (barriers syncs stores loads : ℕ) (partners threads rows : List ℕ) → ℕ
  barrier_broken own barriers syncs stores loads partners threads rows =
      let before : Relation = order_in rows in
      let applies : ℕ → ℕ → ℕ → Bool = applies_in barriers syncs stores loads in
      or_else (may17 n k (set_in own) (bit barriers) applies before before) 17
      (or_else (may18 n k (set_in own) (bit barriers) applies (bit stores) (read_in k loads stores partners threads rows) (thread_in threads) before before) 18 0)
