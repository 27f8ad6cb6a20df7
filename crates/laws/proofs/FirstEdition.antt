-- 02 (vi) leaves edition 1 as it was: its records are read, judged, written and renumbered as before there was an edition 2.
-- Each definition that edition 2 changed stands here in its text before that, with `first` before its name; the others are cited,
-- and with them what later requests changed of both editions: the limits, and the bytes of a name.
-- Assumes nothing.
use Prim.Native.Nat.{ℕ, zero, suc, ◌+◌, ◌≤◌}
use native.Mathlib.Omega.{arith}
use mathlib.Core.Path.{◌≡◌, refl, ap, ap₂, fun_ext}
use mathlib.Core.Bool.{Bool, true, false, not, cond, ◌&&◌, ◌||◌, true≢false}
use mathlib.Core.Logic.{◌⊎◌, inl, inr, ⊎_elim}
use mathlib.Core.List.{List, [], ◌∷◌, ◌++◌, map}
use lib.Dec.{eqb, leb, ltb, lit≤}
use lib.ListN.{length, get_or, drop}
use borrow.Author.Tests.{ne_eqb, lt-ltb, ltb-false, leb-true}
use Rattle.finite.specs.Tests.{all, some, ◌⇒◌}
use Rattle.finite.specs.Lists.{each, every, All}
use Rattle.finite.proofs.Tests.{and_left, or_false, and-true, T_true, all_same, imp_cong}
use Rattle.finite.proofs.All.{all_map}
use Rattle.permutation.specs.Permutation.{image}
use Rattle.number.specs.Number.{Raw, got, short, wrong, groups, read_groups, finish, read_number, encode}
use Rattle.number.specs.Reader.{Out, stop, next, Reader, give, ◌>>=◌, onward, unless, times, up_to, within, below}
use Rattle.model.specs.Limits.{between, least_edition, most_edition, second, most_threads, most_addresses, most_events, most_value}
use Rattle.model.specs.Case.{Case, Event, no_event, sync, lwsync, most_kind, bare}
use Rattle.model.specs.Rules.{Model, or_else, among, kind, thread, address, value, initial, is_load, is_store, is_sync, is_barrier, of, one_address, depends, applicable, store_for, before, everywhere, written, seen, reads_from, judged}
use Rattle.model.specs.Rules.{rule11, rule12, rule13, rule14, rule15, rule16, rule17, rule18, verdict}
use Rattle.model.specs.Record.{event, dependencies, store_to, Head, head, Listing, listing, rest, case, read}
use Rattle.model.specs.Written.{event_bytes, dependencies_bytes, order_bytes, record_of}
use Rattle.model.specs.Renumber.{moved, relabel, renumber}
use Rattle.model.specs.Fault.{event_good, first_fault, dependency_fault, writes_fault, name_fault, fault}
use Rattle.model.specs.Fits.{Fits}

-- ---- what was: the limits

-- a record could state edition 1 alone
abbrev pub first_most_edition : ℕ
first_most_edition = 1

-- a sync had the greatest kind
abbrev pub first_most_kind : ℕ
first_most_kind = sync

-- 01: "unless it is a sync, address and value"
abbrev pub first_bare : ℕ → Bool
first_bare kind = eqb kind sync

-- ---- what was: the rules

module _ (c : Case) where
  open c use {n, k}

  -- a sync is the one barrier of edition 1
  abbrev pub first_is_barrier : ℕ → Bool
  first_is_barrier e = eqb (kind c e) sync

  -- neither is a barrier, and they use one address
  abbrev pub first_one_address : ℕ → ℕ → Bool
  first_one_address a b = not (first_is_barrier a) && not (first_is_barrier b) && eqb (address c a) (address c b)

  -- s is a store to the address of l
  abbrev pub first_store_for : ℕ → ℕ → Bool
  first_store_for l s = is_store c s && first_one_address l s

  -- load l reads from store s
  abbrev pub first_reads_from : ℕ → ℕ → Bool
  first_reads_from l s =
      is_load c l && first_store_for l s && before c (thread c l) s l
      && (all k λ x. (first_store_for l x && not (eqb x s) && before c (thread c l) x l) ⇒ before c (thread c l) x s)

  -- 01: "if either is a sync or both use one address": no dependent pairs
  abbrev pub first_rule13 : Bool
  first_rule13 =
      all n λ p. all k λ b. of c p b
      ⇒ (all b λ a. (of c p a && (first_is_barrier a || first_is_barrier b || first_one_address a b)) ⇒ before c p a b)

  -- Coherence, by first_store_for
  abbrev pub first_rule14 : Bool
  first_rule14 = all n λ p. all k λ a. is_store c a ⇒ (all k λ b. (first_store_for a b && before c p a b) ⇒ written c a b)

  -- V1, by first_store_for
  abbrev pub first_rule15 : Model → Bool
  first_rule15 w =
      all n λ p. all k λ l. judged c w p l
      ⇒ (eqb (value c l) (initial c (address c l)) || (some k λ s. first_store_for l s && before c p s l))

  -- V2, by first_store_for
  abbrev pub first_rule16 : Model → Bool
  first_rule16 w =
      all n λ p. all k λ l. judged c w p l ⇒ (all k λ s. (first_store_for l s && seen c p s)
      ⇒ ((some k λ x. first_store_for l x && not (eqb x s) && before c p s x && before c p x l) || eqb (value c l) (value c s) || before c p l s))

  -- F1, of syncs alone, between any two events
  abbrev pub first_rule17 : Bool
  first_rule17 =
      all n λ p. all k λ f. (first_is_barrier f && of c p f)
      ⇒ (all k λ e. before c p e f ⇒ (all k λ g. (of c p g && before c p f g) ⇒ everywhere c e g))

  -- F2, likewise
  abbrev pub first_rule18 : Bool
  first_rule18 =
      all n λ p. all k λ f. (first_is_barrier f && of c p f)
      ⇒ (all k λ s. (is_store c s && of c p s && before c p f s)
      ⇒ (all k λ l. first_reads_from l s
      ⇒ (all k λ g. before c (thread c l) l g ⇒ (all k λ e. before c p e f ⇒ everywhere c e g))))

  -- the lowest broken number, or 0
  abbrev pub first_verdict : Model → ℕ
  first_verdict w =
      or_else (rule11 c) 11 (or_else (rule12 c) 12 (or_else first_rule13 13 (or_else first_rule14 14
      (or_else (first_rule15 w) 15 (or_else (first_rule16 w) 16 (or_else first_rule17 17 (or_else first_rule18 18 0)))))))

-- ---- what was: reading

-- kind, thread, and unless the kind is bare, address and value
abbrev pub first_event : (n m : ℕ) → Reader Event
first_event n m = do
  kind ← up_to first_most_kind
  thread ← below n
  cond (first_bare kind) (give (record { kind = kind; thread = thread; address = 0; value = 0 })) (do
    address ← below m
    value ← up_to most_value
    give (record { kind = kind; thread = thread; address = address; value = value }))

-- edition, n, m
abbrev pub first_head : Reader Head
first_head = do
  edition ← within least_edition first_most_edition
  n ← within 1 most_threads
  m ← within 1 most_addresses
  give (record { edition = edition; n = n; m = m })

-- m initial values; k, then k events in listing order
abbrev pub first_listing : (n m : ℕ) → Reader Listing
first_listing n m = do
  initials ← times m (up_to most_value)
  k ← up_to most_events
  es ← times k (first_event n m)
  give (record { initials = initials; k = k; events = es })

-- nothing is read between the events and the write orders; a case had no field of dependencies
abbrev pub first_case : Reader Case
first_case = do
  h ← first_head
  l ← first_listing h.n h.m
  t ← rest h.n h.m l.k (store_to l.events)
  give (record {
    edition = h.edition;
    n = h.n;
    m = h.m;
    k = l.k;
    initials = l.initials;
    events = l.events;
    dependencies = [];
    writes = t.writes;
    orders = t.orders;
    name = t.name;
  })

-- a record from its first byte on
abbrev pub first_read : List ℕ → Out Case
first_read s = first_case s 0

-- ---- what was: writing

-- kind, thread, and unless the kind is bare, address and value
abbrev pub first_event_bytes : Event → List ℕ
first_event_bytes e = encode e.kind ++ (encode e.thread ++ cond (first_bare e.kind) [] (encode e.address ++ encode e.value))

-- nothing is written between the events and the write orders
abbrev pub first_record_of : Case → List ℕ
first_record_of c =
    encode c.edition ++ (encode c.n ++ (encode c.m ++ (each encode c.initials
    ++ (encode c.k ++ (each first_event_bytes c.events
    ++ (each (each encode) c.writes
    ++ (each (order_bytes c.k) c.orders
    ++ (encode (length c.name) ++ c.name))))))))

-- ---- what was: renumbering

-- 01: "rewrites thread and address fields"
abbrev pub first_relabel : (q r : ℕ) → Event → Event
first_relabel q r e = record {
  kind = e.kind;
  thread = image q e.thread;
  address = cond (first_bare e.kind) e.address (image r e.address);
  value = e.value;
}

-- 01: "moves initial values, write orders, thread orders"; a case had no field of dependencies
abbrev pub first_renumber : (q r : ℕ) → Case → Case
first_renumber q r c = record {
  edition = c.edition;
  n = c.n;
  m = c.m;
  k = c.k;
  initials = moved r c.m 0 c.initials;
  events = map (first_relabel q r) c.events;
  dependencies = [];
  writes = moved r c.m [] c.writes;
  orders = moved q c.n [] c.orders;
  name = c.name;
}

-- ---- what was: the refusal of a case that is handed without bytes

-- each field of an event is within its limit
abbrev pub first_event_good : (n m : ℕ) → Event → Bool
first_event_good n m e =
    leb e.kind first_most_kind && ltb e.thread n && (first_bare e.kind || (ltb e.address m && leb e.value most_value))

-- 01: "3 or 4 as the reader would for the first bad field"
abbrev pub first_fault_of : Case → ℕ
first_fault_of c =
    or_else (between least_edition first_most_edition c.edition) 3
    (or_else (between 1 most_threads c.n) 3
    (or_else (between 1 most_addresses c.m) 3
    (or_else (every (λ v. leb v most_value) c.initials) 3
    (or_else (leb c.k most_events) 3
    (or_else (every (first_event_good c.n c.m) c.events) 3
    (first_fault (writes_fault c.k (store_to c.events) 0 c.writes)
    (name_fault c.name)))))))

-- ---- kinds and lists

-- the kind is bare where it was
abbrev Kept : ℕ → Type 0
Kept kind = bare kind ≡ first_bare kind

kept : (kind : ℕ) → kind ≤ first_most_kind → Kept kind
kept kind h = rw (ne_eqb kind lwsync (λ e. omega arith)) (or_false (first_bare kind))

-- what holds of each and of what stands past the last holds at every place
all_or : {A : Type 0} (P : A → Type 0) (d : A) → P d → (l : List A) → All P l → (i : ℕ) → P (get_or l i d)
all_or P d p [] h i = p
all_or P d p (a ∷ l) h zero = h.0
all_or P d p (a ∷ l) h (suc i) = all_or P d p l h.1 i

map_same : {A B : Type 0} (P : A → Type 0) (f g : A → B) → ((a : A) → P a → f a ≡ g a) → (l : List A) → All P l → map f l ≡ map g l
map_same P f g e [] h = refl
map_same P f g e (a ∷ l) h = ap₂ ◌∷◌ (e a h.0) (map_same P f g e l h.1)

each_map : {A : Type 0} (f : A → List ℕ) (l : List A) → each f l ≡ each (λ b. b) (map f l)
unfolding each
each_map f [] = refl
each_map f (a ∷ l) = ap (λ (t : List ℕ). f a ++ t) (each_map f l)

module _ (c : Case) (F : Fits c) (is_one : c.edition ≡ 1) where
  open c use {n, k}

  kinds : All (λ e. Kept e.kind) c.events
  unfolding most_kind
  kinds = all_map _ _ (λ e h. kept e.kind (rw is_one at h.kind)) c.events F.events

  no_dependencies : c.dependencies ≡ []
  no_dependencies = F.no_dependencies (rw is_one)

  -- ---- judging

  barriers : (e : ℕ) → is_barrier c e ≡ first_is_barrier c e
  unfolding is_barrier kind
  barriers e = all_or (λ e. Kept e.kind) no_event refl c.events kinds e

  dependents : (a b : ℕ) → depends c a b ≡ false
  unfolding depends among
  dependents a b = rw no_dependencies

  addresses : (a b : ℕ) → one_address c a b ≡ first_one_address c a b
  unfolding one_address
  addresses a b = simp barriers

  stores : (l s : ℕ) → store_for c l s ≡ first_store_for c l s
  unfolding store_for
  stores l s = simp addresses

  sources : (l s : ℕ) → reads_from c l s ≡ first_reads_from c l s
  unfolding reads_from
  sources l s = simp stores

  -- every barrier is a sync, and a sync is applicable to any two events
  syncs :
      (x y : ℕ → ℕ → Bool) → ((p f : ℕ) → ((e g : ℕ) → applicable c f e g ≡ true) → x p f ≡ y p f)
      → all n (λ p. all k (λ f. (is_barrier c f && of c p f) ⇒ x p f)) ≡ all n (λ p. all k (λ f. (first_is_barrier c f && of c p f) ⇒ y p f))
  unfolding applicable is_sync
  syncs x y h =
      simp barriers (all_same n _ _ (λ p _. all_same k _ _ (λ f _. imp_cong (first_is_barrier c f && of c p f) _ _
      (λ t. h p f (λ e g. rw (T_true {b = first_is_barrier c f} (and_left (first_is_barrier c f) (of c p f) t)))))))

  thirteen : rule13 c ≡ first_rule13 c
  unfolding rule13
  thirteen = simp (barriers, addresses, dependents, or_false)

  fourteen : rule14 c ≡ first_rule14 c
  unfolding rule14
  fourteen = simp stores

  fifteen : (w : Model) → rule15 c w ≡ first_rule15 c w
  unfolding rule15
  fifteen w = simp stores

  sixteen : (w : Model) → rule16 c w ≡ first_rule16 c w
  unfolding rule16
  sixteen w = simp stores

  seventeen : rule17 c ≡ first_rule17 c
  unfolding rule17
  seventeen = syncs _ _ (λ p f a. simp (a, and-true))

  eighteen : rule18 c ≡ first_rule18 c
  unfolding rule18
  eighteen = syncs _ _ (λ p f a. simp (a, and-true, sources))

-- the theorems, of a case of edition 1
module _ (c : Case) (F : Fits c) (one : c.edition ≡ 1) where
  -- the same verdict
  pub judges_as_before : (w : Model) → verdict c w ≡ first_verdict c w
  unfolding verdict
  judges_as_before w = simp (thirteen c F one, fourteen c F one, fifteen c F one w, sixteen c F one w, seventeen c F one, eighteen c F one)

  -- ---- writing and renumbering

  -- the same bytes
  pub writes_as_before : record_of c ≡ first_record_of c
  unfolding record_of event_bytes dependencies_bytes
  writes_as_before =
      rw (one, each_map event_bytes, map_same _ event_bytes first_event_bytes (λ e h. rw h) c.events (kinds c F one), ← (each_map first_event_bytes))

  -- the same renumbered case, which has no dependencies either
  pub renumbers_as_before : (q r : ℕ) → renumber q r c ≡ first_renumber q r c
  unfolding renumber relabel
  renumbers_as_before q r = rw (map_same _ (relabel q r) (first_relabel q r) (λ e h. rw h) c.events (kinds c F one), no_dependencies c F one)

-- ---- a case handed without bytes

event-good : (n m : ℕ) (e : Event) → event_good 1 n m e ≡ first_event_good n m e
unfolding event_good most_kind
event-good n m e = by (leb e.kind first_most_kind) refl
  where
    good : Bool → Bool → Bool
    good x b = x && ltb e.thread n && (b || (ltb e.address m && leb e.value most_value))

    by : (x : Bool) → leb e.kind first_most_kind ≡ x → good x (bare e.kind) ≡ good x (first_bare e.kind)
    by true h = ap (good true) (kept e.kind (leb-true e.kind first_most_kind h))
    by false h = refl

-- the same fault, whether or not the case fits
pub faults_as_before : (c : Case) → c.edition ≡ 1 → c.dependencies ≡ [] → fault c ≡ first_fault_of c
unfolding fault dependency_fault
faults_as_before c one none =
    let events : event_good 1 c.n c.m ≡ first_event_good c.n c.m = fun_ext (event-good c.n c.m) in rw (one, none, events)

-- ---- reading

onward-onward : {A B C : Type 0} (f : B → ℕ → Out C) (g : A → ℕ → Out B) (o : Out A) → onward f (onward g o) ≡ onward (λ a p. onward f (g a p)) o
onward-onward f g (stop x p) = refl
onward-onward f g (next a p) = refl

-- what follows a number counts only where the number is within its limit
up_to_same :
    {A : Type 0} (hi : ℕ) (s : List ℕ) (at : ℕ) (f g : ℕ → ℕ → Out A) → ((v p : ℕ) → v ≤ hi → f v p ≡ g v p)
    → onward f (up_to hi s at) ≡ onward g (up_to hi s at)
unfolding up_to read_number finish
up_to_same hi s at f g e = by (read_groups groups 0 (drop at s))
  where
    by : (r : Raw) → onward f ((finish at hi r)) ≡ onward g ((finish at hi r))
    by short = refl
    by wrong = refl
    by (got v i) = small (ltb hi v) refl
      where
        kept_to : Bool → Out ℕ
        kept_to y = (cond y (stop 3 at) (next v (at + i)))

        small : (y : Bool) → ltb hi v ≡ y → onward f (kept_to y) ≡ onward g (kept_to y)
        small true h = refl
        small false h = e v (at + i) (ltb-false hi v h)

events-first : (n m : ℕ) → event 1 n m ≡ first_event n m
unfolding event most_kind
events-first n m = fun_ext (λ s. fun_ext (λ at. up_to_same first_most_kind s at _ _ (λ kind p h. simp (kept kind h))))

-- the edition as it reads and as it read
data Edition (s : List ℕ) (at : ℕ) : Type 0 where
  one : (p : ℕ) → within least_edition most_edition s at ≡ next 1 p → within least_edition first_most_edition s at ≡ next 1 p → Edition s at
  two : (p : ℕ) → up_to most_edition s at ≡ next most_edition p → within least_edition first_most_edition s at ≡ stop 3 at → Edition s at
  none : (x p : ℕ) → within least_edition most_edition s at ≡ stop x p → within least_edition first_most_edition s at ≡ stop x p → Edition s at

edition : (s : List ℕ) (at : ℕ) → Edition s at
unfolding within unless up_to read_number finish
edition s at = by (read_groups groups 0 (drop at s)) refl
  where
    by : (r : Raw) → read_groups groups 0 (drop at s) ≡ r → Edition s at
    by short e = none 1 at (rw e) (rw e)
    by wrong e = none 2 at (rw e) (rw e)
    by (got zero i) e = none 3 at (rw e) (rw e)
    by (got (suc zero) i) e = one (at + i) (rw e) (rw e)
    by (got (suc (suc zero)) i) e = two (at + i) (rw e) (rw e)
    by (got (suc (suc (suc v))) i) e =
        let past : (hi : ℕ) → hi ≤ most_edition → ltb hi (suc (suc (suc v))) ≡ true = λ hi h. lt-ltb hi (suc (suc (suc v))) (omega arith) in
        none 3 at (rw (e, past most_edition (lit≤ tt))) (rw (e, past first_most_edition (lit≤ tt)))

-- the bytes at the place state edition 2, and were refused for it
pub record Later (s : List ℕ) (at : ℕ) : Type 0 where
  pub place : ℕ
  pub stated : up_to most_edition s at ≡ next most_edition place
  pub refused : first_case s at ≡ stop 3 at

-- all other bytes: the same case and next place, or the same refusal and its place
pub reads_or_later : (s : List ℕ) (at : ℕ) → (case s at ≡ first_case s at) ⊎ Later s at
unfolding case head listing dependencies
reads_or_later s at = by (edition s at)
  where
    by : Edition s at → (case s at ≡ first_case s at) ⊎ Later s at
    by (one p e f) = inl (simp (e, f, onward-onward, events-first))
    by (two p e f) = inr (record { place = p; stated = e; refused = simp f })
    by (none x p e f) = inl (simp (e, f))

-- the same where the bytes do not state edition 2
pub reads_as_before :
    (s : List ℕ) (at : ℕ) → ((e p : ℕ) → up_to most_edition s at ≡ next e p → second e ≡ false) → case s at ≡ first_case s at
reads_as_before s at h = ⊎_elim (λ e. e) (λ L. absurd (true≢false (h most_edition L.place L.stated))) (reads_or_later s at)

-- and of a record from its first byte on
pub record_as_before : (s : List ℕ) → ((e p : ℕ) → up_to most_edition s 0 ≡ next e p → second e ≡ false) → read s ≡ first_read s
unfolding read
record_as_before s = reads_as_before s 0
