-- What a struct's arrays say of the case that it means.
-- Assumes nothing.
use Prim.Native.Nat.{ℕ, zero, suc, ◌+◌, ◌*◌, ◌%◌, ◌^◌, ◌≤◌, ◌<◌}
use native.Mathlib.Nat.{zero-add}
use native.Mathlib.Omega.{arith}
use mathlib.Core.Path.{◌≡◌, refl, sym, ap, ap₂, ◌∙◌}
use mathlib.Core.Bool.{Bool, true, false, not, cond, ◌&&◌, ◌||◌, true≢false}
use mathlib.Core.List.{List, [], ◌∷◌, ◌++◌}
use lib.Dec.{eqb}
use lib.ListN.{get_or}
use borrow.Author.Tests.{eqb-true}
use Rattle.finite.specs.Tests.{some}
use Rattle.finite.specs.Lists.{table}
use Rattle.finite.proofs.Tests.{or_false}
use Rattle.finite.proofs.Lists.{table_get, table-snoc}
use Rattle.bits.specs.Bit.{bit}
use Rattle.bits.proofs.Bits.{bit_left}
use Rattle.model.specs.Limits.{second, most_events}
use Rattle.model.specs.Case.{Event, no_event, bare, load, store, sync, lwsync, most_kind}
use Rattle.model.specs.Rules.{among, kind, thread, address, value, initial, is_load, is_store, is_sync, is_barrier, of, depends, before}
use Rattle.case.specs.declared.Case.{Case as Held}
use Rattle.case.specs.Held.{event_of, events_of, link_count, link, links_of, case_of}
use Rattle.rows.specs.Sets.{order_in, depends_in}

either_way : (f : Event → ℕ) (b : Bool) (x y : Event) → f x ≡ f y → f (cond b x y) ≡ f y
either_way f true x y h = h
either_way f false x y h = refl

module _ (k t a v : ℕ) where
  event-kind : (event_of k t a v).kind ≡ k
  unfolding event_of
  event-kind = either_way (λ e. e.kind) (bare k) (record { kind = k; thread = t; address = 0; value = 0 }) (record { kind = k; thread = t; address = a; value = v }) refl

  event-thread : (event_of k t a v).thread ≡ t
  unfolding event_of
  event-thread = either_way (λ e. e.thread) (bare k) (record { kind = k; thread = t; address = 0; value = 0 }) (record { kind = k; thread = t; address = a; value = v }) refl

  event-full : bare k ≡ false → event_of k t a v ≡ record { kind = k; thread = t; address = a; value = v }
  unfolding event_of
  event-full h = ap (λ b. cond b (record { kind = k; thread = t; address = 0; value = 0 }) (record { kind = k; thread = t; address = a; value = v })) h

-- some entry of a table passes
module _ {A : Type 0} (f : A → Bool) where
  among-snoc : (xs : List A) (a : A) → among f (xs ++ (a ∷ [])) ≡ (among f xs || f a)
  unfolding among
  among-snoc [] a = or_false (f a)
  among-snoc (x ∷ xs) a = ap (λ t. f x || t) (among-snoc xs a) ∙ turn (f x)
    where
      turn : (b : Bool) → (b || (among f xs || f a)) ≡ ((b || among f xs) || f a)
      turn true = refl
      turn false = refl

  pub among-table : (n : ℕ) (g : ℕ → A) → among f (table 0 n g) ≡ some n (λ i. f (g i))
  unfolding among some table
  among-table zero g = refl
  among-table (suc n) g =
      ap (among f) (table-snoc 0 n g) ∙ among-snoc (table 0 n g) (g (0 + n)) ∙ ap₂ (λ s t. s || t) (among-table n g) (ap (λ (i : ℕ). f (g i)) (zero-add n))

module _ (c : Held) where
  pub event_in : (e : ℕ) → e < c.events → get_or (case_of c).events e no_event ≡ event_of (get_or c.kind e 0) (get_or c.thread e 0) (get_or c.address e 0) (get_or c.value e 0)
  unfolding case_of events_of
  event_in e l = table_get c.events (λ e. event_of (get_or c.kind e 0) (get_or c.thread e 0) (get_or c.address e 0) (get_or c.value e 0)) e no_event l

  pub kind_in : (e : ℕ) → e < c.events → kind (case_of c) e ≡ get_or c.kind e 0
  unfolding kind
  kind_in e l = ap (λ (x : Event). x.kind) (event_in e l) ∙ event-kind (get_or c.kind e 0) (get_or c.thread e 0) (get_or c.address e 0) (get_or c.value e 0)

  pub thread-in : (e : ℕ) → e < c.events → thread (case_of c) e ≡ get_or c.thread e 0
  unfolding thread
  thread-in e l = ap (λ (x : Event). x.thread) (event_in e l) ∙ event-thread (get_or c.kind e 0) (get_or c.thread e 0) (get_or c.address e 0) (get_or c.value e 0)

  full_in : (e : ℕ) → e < c.events → bare (get_or c.kind e 0) ≡ false
      → get_or (case_of c).events e no_event ≡ record { kind = get_or c.kind e 0; thread = get_or c.thread e 0; address = get_or c.address e 0; value = get_or c.value e 0 }
  full_in e l h = event_in e l ∙ event-full (get_or c.kind e 0) (get_or c.thread e 0) (get_or c.address e 0) (get_or c.value e 0) h

  pub address_in : (e : ℕ) → e < c.events → bare (get_or c.kind e 0) ≡ false → address (case_of c) e ≡ get_or c.address e 0
  unfolding address
  address_in e l h = ap (λ (x : Event). x.address) (full_in e l h)

  pub value-in : (e : ℕ) → e < c.events → bare (get_or c.kind e 0) ≡ false → value (case_of c) e ≡ get_or c.value e 0
  unfolding value
  value-in e l h = ap (λ (x : Event). x.value) (full_in e l h)

  pub initial_in : (x : ℕ) → x < c.addresses → initial (case_of c) x ≡ get_or c.initial x 0
  unfolding initial case_of
  initial_in x l = table_get c.addresses (λ x. get_or c.initial x 0) x 0 l

  pub before_in : (p : ℕ) → p < c.threads → (a : ℕ) → a < c.events → (b : ℕ) → b < c.events → order_in c.rows p a b ≡ before (case_of c) p a b
  unfolding before case_of
  before_in p lp a la b lb =
      sym (ap (λ (r : List ℕ). bit (get_or r a 0) b) (table_get c.threads (λ p. table 0 c.events (λ a. get_or c.rows (p * most_events + a) 0 % 2 ^ c.events)) p [] lp)
      ∙ ap (λ (r : ℕ). bit r b) (table_get c.events (λ a. get_or c.rows (p * most_events + a) 0 % 2 ^ c.events) a 0 la)
      ∙ bit_left (get_or c.rows (p * most_events + a) 0) c.events b lb)

  -- by kind
  pub load_in : (e : ℕ) → e < c.events → is_load (case_of c) e ≡ eqb (get_or c.kind e 0) load
  unfolding is_load
  load_in e l = ap (λ (x : ℕ). eqb x load) (kind_in e l)

  pub store-in : (e : ℕ) → e < c.events → is_store (case_of c) e ≡ eqb (get_or c.kind e 0) store
  unfolding is_store
  store-in e l = ap (λ (x : ℕ). eqb x store) (kind_in e l)

  pub sync_in : (e : ℕ) → e < c.events → is_sync (case_of c) e ≡ eqb (get_or c.kind e 0) sync
  unfolding is_sync
  sync_in e l = ap (λ (x : ℕ). eqb x sync) (kind_in e l)

  pub barrier_in : (e : ℕ) → e < c.events → is_barrier (case_of c) e ≡ bare (get_or c.kind e 0)
  unfolding is_barrier
  barrier_in e l = ap (λ (x : ℕ). bare x) (kind_in e l)

  pub of_in : (p e : ℕ) → e < c.events → of (case_of c) p e ≡ eqb (get_or c.thread e 0) p
  unfolding of
  of_in p e l = ap (λ (x : ℕ). eqb x p) (thread-in e l)

  -- by dependency
  pub depends-in : (a b : ℕ) → depends (case_of c) a b ≡ depends_in c.from c.to (link_count c.edition c.dependencies) a b
  unfolding depends case_of links_of
  depends-in a b =
      among-table (λ d. eqb d.from a && eqb d.to b) (link_count c.edition c.dependencies) (λ j. link (get_or c.class j 0) (get_or c.from j 0) (get_or c.to j 0))

-- a kind that is none of the bare ones
pub full-kind : (edition x : ℕ) → x ≤ most_kind edition → (eqb x load || eqb x store) ≡ not (bare x)
unfolding most_kind
full-kind edition x h = by x (any (second edition) h)
  where
    any : (b : Bool) → x ≤ cond b lwsync sync → x ≤ lwsync
    any true l = l
    any false l = omega arith

    by : (x : ℕ) → x ≤ lwsync → (eqb x load || eqb x store) ≡ not (bare x)
    by zero l = refl
    by (suc zero) l = refl
    by (suc (suc zero)) l = refl
    by (suc (suc (suc zero))) l = refl
    by (suc (suc (suc (suc x)))) l = absurd (omega arith)

pub load_full : (x : ℕ) → eqb x load ≡ true → bare x ≡ false
load_full x h = ap bare (eqb-true x load h)

pub store-full : (x : ℕ) → eqb x store ≡ true → bare x ≡ false
store-full x h = ap bare (eqb-true x store h)

pub twice_not : (b : Bool) → not (not b) ≡ b
twice_not true = refl
twice_not false = refl

pub not-not : (x y : Bool) → x ≡ not y → x ≡ true → y ≡ false
not-not x true h t = absurd (true≢false (sym t ∙ h))
not-not x false h t = refl
