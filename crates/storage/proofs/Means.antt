-- The state that a struct means, by the struct's arrays; the struct's ranges.
-- Assumes nothing.
use Prim.Native.Nat.{ℕ, ◌*◌, ◌≤◌, ◌<◌}
use native.Mathlib.Omega.{arith}
use native.Mathlib.Decide.{dec_lt}
use mathlib.Core.Path.{◌≡◌, sym, ap, ◌∙◌, subst}
use mathlib.Core.Bool.{Bool, true, false, ◌&&◌}
use mathlib.Core.List.{List, [], map}
use lib.Dec.{eqb, ltb}
use lib.ListN.{length, get_or, length-map, get_or-eq_default}
use borrow.Author.Tests.{lt-ltb, le-ltb}
use Rattle.finite.specs.Tests.{tick}
use Rattle.finite.proofs.Tests.{is_false}
use Rattle.finite.specs.Lists.{All}
use Rattle.finite.proofs.Lists.{table_get, table-length}
use Rattle.finite.proofs.All.{all_at, all_mapped, all_places}
use Rattle.bits.specs.Bit.{bit}
use Rattle.bits.proofs.Bits.{bit-zero}
use Rattle.model.specs.Limits.{most_threads, most_addresses}
use Rattle.storage_model.specs.Limits.{most_writes, most_barriers, most_listed}
use Rattle.storage_model.specs.Subsystem.{State, Write, Barrier, Event, no_write, no_barrier, member, precedes, writer, address, value, owner, class, events, coherent, writes_seen, barriers_seen, unacknowledged_sync}
use Rattle.storage_model.specs.Sound.{Sound, Within, WriteWithin, BarrierWithin}
use Rattle.storage_laws.proofs.Lists.{all_members}
use Rattle.storage_laws.proofs.Relations.{related_in}
use Rattle.storage_laws.proofs.Short.{lists-short}
use Rattle.case.specs.Held.{pad, rows_of}
use Rattle.case.proofs.Pad.{length-pad, field_past, rows-length}
use Rattle.storage.specs.Held.{entry_of, list_at, edge_in, relation_in, set_of, rows_held, state_of, held, Good}
use Rattle.storage.specs.declared.Storage.{Storage as Held}
use Rattle.storage.proofs.Events.{entry_low}
use Rattle.storage.proofs.Sets.{set-bit}
use Rattle.storage.proofs.Stores.{entries-short, rows-size, rows_at, rows_past}
use Rattle.storage.proofs.Entries.{everywhere}

-- the lists of a state are short
pub lists-few : (s : State) → Sound s → Within s → (t : ℕ) → length (events s t) ≤ most_listed
lists-few s S W t = let l = lists-short s S t in omega (arith, l, W.few_writes, W.few_barriers)

-- ---- of any struct
module _ (c : Held) where
  -- the writes seen
  pub writes-of : writes_seen (state_of c) ≡ c.writes
  unfolding state_of
  writes-of = table-length 0 c.writes _

  -- the barriers seen
  pub barriers-of : barriers_seen (state_of c) ≡ c.barriers
  unfolding state_of
  barriers-of = table-length 0 c.barriers _

  -- the addresses
  pub addresses_of : length (state_of c).initials ≡ c.addresses
  unfolding state_of
  addresses_of = table-length 0 c.addresses _

  -- a list for each thread, and a mark for each barrier
  pub lists_of : length (state_of c).propagated ≡ c.threads
  unfolding state_of
  lists_of = table-length 0 c.threads _

  pub marks_of : length (state_of c).unacknowledged ≡ c.barriers
  unfolding state_of
  marks_of = table-length 0 c.barriers _

  -- an initial value
  pub initial_of : (a : ℕ) → a < c.addresses → get_or (state_of c).initials a 0 ≡ get_or c.initial a 0
  unfolding state_of
  initial_of a l = table_get c.addresses (λ x. get_or c.initial x 0) a 0 l

  -- a write
  write_at : (w : ℕ) → w < c.writes
      → get_or (state_of c).writes w no_write ≡ record { thread = get_or c.writer w 0; address = get_or c.address w 0; value = get_or c.value w 0 }
  unfolding state_of
  write_at w l = table_get c.writes _ w no_write l

  pub writer_of : (w : ℕ) → w < c.writes → writer (state_of c) w ≡ get_or c.writer w 0
  unfolding writer
  writer_of w l = ap (λ (x : Write). x.thread) (write_at w l)

  pub address-of : (w : ℕ) → w < c.writes → address (state_of c) w ≡ get_or c.address w 0
  unfolding address
  address-of w l = ap (λ (x : Write). x.address) (write_at w l)

  pub value_of : (w : ℕ) → w < c.writes → value (state_of c) w ≡ get_or c.value w 0
  unfolding value
  value_of w l = ap (λ (x : Write). x.value) (write_at w l)

  -- a barrier
  barrier_at : (b : ℕ) → b < c.barriers → get_or (state_of c).barriers b no_barrier ≡ record { thread = get_or c.owner b 0; class = get_or c.class b 0 }
  unfolding state_of
  barrier_at b l = table_get c.barriers _ b no_barrier l

  pub owner_of : (b : ℕ) → b < c.barriers → owner (state_of c) b ≡ get_or c.owner b 0
  unfolding owner
  owner_of b l = ap (λ (x : Barrier). x.thread) (barrier_at b l)

  pub class_of : (b : ℕ) → b < c.barriers → class (state_of c) b ≡ get_or c.class b 0
  unfolding class
  class_of b l = ap (λ (x : Barrier). x.class) (barrier_at b l)

  -- a thread's list
  pub events-of : (t : ℕ) → t < c.threads → events (state_of c) t ≡ list_at c.listed c.events t
  unfolding events state_of
  events-of t l = table_get c.threads (list_at c.listed c.events) t [] l

  -- its length
  pub list_length : (t : ℕ) → length (list_at c.listed c.events t) ≡ get_or c.listed t 0
  unfolding list_at
  list_length t = table-length 0 (get_or c.listed t 0) _

  -- coherence
  coherent_in : (a b : ℕ) → a < c.writes → b < c.writes → coherent (state_of c) a b ≡ edge_in c.before a b
  unfolding coherent state_of relation_in
  coherent_in a b la lb = related_in c.writes (edge_in c.before) a b la lb

field_size : {A : Type 0} (n : ℕ) (f : A → ℕ) (as' : List A) → length as' ≤ n → length (pad n (map f as')) ≡ n
field_size n f as' l = length-pad n (map f as') (rw (length-map as' f) l)

-- ---- of a struct that holds a state that steps can lead to
module _ (c : Held) (G : Good c) where
  -- counts
  pub threads-few : c.threads ≤ most_threads
  unfolding state_of
  threads-few = G.within.threads

  pub addresses-few : c.addresses ≤ most_addresses
  addresses-few = rw (addresses_of c) at G.within.addresses

  pub writes-few : c.writes ≤ most_writes
  writes-few = rw (writes-of c) at G.within.few_writes

  pub barriers-few : c.barriers ≤ most_barriers
  barriers-few = rw (barriers-of c) at G.within.few_barriers

  -- the threads and addresses of writes and barriers
  write-within : (w : ℕ) → w < c.writes → WriteWithin (state_of c).threads (length (state_of c).initials) (get_or (state_of c).writes w no_write)
  write-within w l = all_at (WriteWithin (state_of c).threads (length (state_of c).initials)) (state_of c).writes G.within.writes w no_write (rw (writes-of c) l)

  pub writer-within : (w : ℕ) → w < c.writes → get_or c.writer w 0 < c.threads
  unfolding state_of
  writer-within w l = rw (write_at c w l) at (write-within w l).thread

  pub write-address-within : (w : ℕ) → w < c.writes → get_or c.address w 0 < c.addresses
  write-address-within w l = rw (write_at c w l, addresses_of c) at (write-within w l).address

  pub owner-within : (b : ℕ) → b < c.barriers → get_or c.owner b 0 < c.threads
  unfolding state_of
  owner-within b l =
      rw (barrier_at c b l) at (all_at (BarrierWithin (state_of c).threads) (state_of c).barriers G.within.barriers b no_barrier (rw (barriers-of c) l)).thread

  -- each array, by the state
  pub initial_is : c.initial ≡ pad most_addresses (state_of c).initials
  unfolding held
  initial_is = ap (λ (x : Held). x.initial) G.same

  pub writer_is : c.writer ≡ pad most_writes (map (λ w. w.thread) (state_of c).writes)
  unfolding held
  writer_is = ap (λ (x : Held). x.writer) G.same

  pub address_is : c.address ≡ pad most_writes (map (λ w. w.address) (state_of c).writes)
  unfolding held
  address_is = ap (λ (x : Held). x.address) G.same

  pub value_is : c.value ≡ pad most_writes (map (λ w. w.value) (state_of c).writes)
  unfolding held
  value_is = ap (λ (x : Held). x.value) G.same

  pub before_is : c.before ≡ rows_held (writes_seen (state_of c)) (state_of c).coherence
  unfolding held
  before_is = ap (λ (x : Held). x.before) G.same

  pub owner_is : c.owner ≡ pad most_barriers (map (λ b. b.thread) (state_of c).barriers)
  unfolding held
  owner_is = ap (λ (x : Held). x.owner) G.same

  pub class_is : c.class ≡ pad most_barriers (map (λ b. b.class) (state_of c).barriers)
  unfolding held
  class_is = ap (λ (x : Held). x.class) G.same

  pub unacknowledged_is : c.unacknowledged ≡ pad most_barriers (map tick (state_of c).unacknowledged)
  unfolding held
  unacknowledged_is = ap (λ (x : Held). x.unacknowledged) G.same

  pub listed_is : c.listed ≡ pad most_threads (map length (state_of c).propagated)
  unfolding held
  listed_is = ap (λ (x : Held). x.listed) G.same

  pub events_is : c.events ≡ pad (most_threads * most_listed) (rows_of most_listed (map (map entry_of) (state_of c).propagated))
  unfolding held
  events_is = ap (λ (x : Held). x.events) G.same

  -- the arrays' lengths
  pub initial-size : length c.initial ≡ most_addresses
  initial-size = rw initial_is (length-pad most_addresses (state_of c).initials G.within.addresses)

  pub writer-size : length c.writer ≡ most_writes
  writer-size = rw writer_is (field_size most_writes _ (state_of c).writes G.within.few_writes)

  pub address-size : length c.address ≡ most_writes
  address-size = rw address_is (field_size most_writes _ (state_of c).writes G.within.few_writes)

  pub value-size : length c.value ≡ most_writes
  value-size = rw value_is (field_size most_writes _ (state_of c).writes G.within.few_writes)

  pub before-size : length c.before ≡ most_writes
  before-size = ap length before_is ∙ rows-size _ _ G.within.few_writes

  pub owner-size : length c.owner ≡ most_barriers
  owner-size = rw owner_is (field_size most_barriers _ (state_of c).barriers G.within.few_barriers)

  pub class-size : length c.class ≡ most_barriers
  class-size = rw class_is (field_size most_barriers _ (state_of c).barriers G.within.few_barriers)

  pub unacknowledged-size : length c.unacknowledged ≡ most_barriers
  unacknowledged-size = rw unacknowledged_is (field_size most_barriers tick (state_of c).unacknowledged (rw (marks_of c) barriers-few))

  pub listed-size : length c.listed ≡ most_threads
  listed-size = rw listed_is (field_size most_threads length (state_of c).propagated (rw (lists_of c) threads-few))

  -- a thread's list is short, and nothing stands in it twice
  pub list_short : (t : ℕ) → length (events (state_of c) t) ≤ most_listed
  list_short t = lists-few (state_of c) G.sound G.within t

  pub list_once : (t : ℕ) → t < c.threads → (e : Event) → precedes e e (list_at c.listed c.events t) ≡ true → ⊥
  list_once t l e h = (G.sound.lists t).once e (rw (events-of c t l) h)

  pub listed-few : (t : ℕ) → get_or c.listed t 0 ≤ most_listed
  listed-few t = by (dec_lt t c.threads)
    where
      by : Dec (t < c.threads) → get_or c.listed t 0 ≤ most_listed
      by (yes l) = rw (events-of c t l, list_length c t) at (list_short t)
      by (no d) =
          let z : get_or c.listed t 0 ≡ 0 =
          ap (λ (x : List ℕ). get_or x t 0) listed_is ∙ field_past length most_threads (state_of c).propagated t (rw (lists_of c) (omega arith)) in
          omega (arith, z)

  -- coherence, with nothing from or to a write that was not seen
  pub before_past : (b : ℕ) → c.writes ≤ b → get_or c.before b 0 ≡ 0
  before_past b l = ap (λ (x : List ℕ). get_or x b 0) before_is ∙ rows_past _ _ b (rw (writes-of c) l)

  before_at : (b : ℕ) → b < c.writes → get_or c.before b 0 ≡ set_of c.writes (λ a. coherent (state_of c) a b)
  unfolding coherent
  before_at b l =
      ap (λ (x : List ℕ). get_or x b 0) before_is
      ∙ rows_at (writes_seen (state_of c)) (state_of c).coherence b (rw (writes-of c) l)
      ∙ ap (λ (k : ℕ). set_of k (λ a. coherent (state_of c) a b)) (writes-of c)

  pub coherent_of : (a b : ℕ) → coherent (state_of c) a b ≡ edge_in c.before a b
  unfolding edge_in
  coherent_of a b = by (dec_lt b c.writes)
    where
      unseen : (a b : ℕ) → (a < c.writes → b < c.writes → ⊥) → coherent (state_of c) a b ≡ false
      unseen a b d = is_false (λ h. let l = G.sound.ordered.seen a b h in d (rw (writes-of c) at l.0) (rw (writes-of c) at l.1))

      inside : b < c.writes → Dec (a < c.writes) → coherent (state_of c) a b ≡ (ltb a c.writes && coherent (state_of c) a b)
      inside l (yes m) = sym (ap (λ (t : Bool). t && coherent (state_of c) a b) (lt-ltb a c.writes m))
      inside l (no d) = unseen a b (λ m l. d m) ∙ sym (ap (λ (t : Bool). t && coherent (state_of c) a b) (le-ltb a c.writes (omega arith)))

      by : Dec (b < c.writes) → coherent (state_of c) a b ≡ bit (get_or c.before b 0) a
      by (yes l) = inside l (dec_lt a c.writes) ∙ sym (set-bit c.writes (λ a. coherent (state_of c) a b) a) ∙ ap (λ (r : ℕ). bit r a) (sym (before_at b l))
      by (no d) = unseen a b (λ m l. d l) ∙ sym (ap (λ (r : ℕ). bit r a) (before_past b (omega arith)) ∙ bit-zero a)

  -- a sync's mark
  pub unacknowledged_of : (b : ℕ) → unacknowledged_sync (state_of c) b ≡ eqb (get_or c.unacknowledged b 0) 1
  unfolding unacknowledged_sync
  unacknowledged_of b = by (dec_lt b c.barriers)
    where
      by : Dec (b < c.barriers) → get_or (state_of c).unacknowledged b false ≡ eqb (get_or c.unacknowledged b 0) 1
      by (yes l) = unfold state_of in table_get c.barriers (λ b. eqb (get_or c.unacknowledged b 0) 1) b false l
      by (no d) =
          get_or-eq_default (state_of c).unacknowledged false (rw (marks_of c) (omega arith))
          ∙ sym (ap (λ (x : ℕ). eqb x 1)
          (ap (λ (x : List ℕ). get_or x b 0) unacknowledged_is ∙ field_past tick most_barriers (state_of c).unacknowledged b (rw (marks_of c) (omega arith))))

  -- the entries of the lists
  pub events-size : length c.events ≡ most_threads * most_listed
  events-size =
      let rows : length (rows_of most_listed (map (map entry_of) (state_of c).propagated)) ≡ length (map (map entry_of) (state_of c).propagated) * most_listed =
      rows-length most_listed _ (entries-short (state_of c).propagated (λ y l. unfold events in list_short y)) in
      ap length events_is
      ∙ length-pad (most_threads * most_listed) _ (rw (rows, length-map (state_of c).propagated (map entry_of), lists_of c) (omega (arith, threads-few)))

  -- the numbers of a list's events
  entries_low : (t : ℕ) → All (λ x. x < most_listed) (map entry_of (events (state_of c) t))
  entries_low t =
      let L = G.sound.lists t in
      all_mapped (λ e. entry_of e < most_listed) (λ x. x < most_listed) entry_of (λ e h. h) (events (state_of c) t)
      (all_members (λ e. entry_of e < most_listed) (events (state_of c) t)
      (λ e h. entry_low e (λ w z. omega (arith, L.writes w (subst (λ x. member x (events (state_of c) t) ≡ true) z h), G.within.few_writes))
      (λ b z. omega (arith, L.barriers b (subst (λ x. member x (events (state_of c) t) ≡ true) z h), G.within.few_barriers))))

  pub events_low : (i : ℕ) → get_or c.events i 0 < most_listed
  events_low i =
      rw events_is
      (everywhere (λ x. x < most_listed) (omega arith) (most_threads * most_listed) most_listed (map (map entry_of) (state_of c).propagated)
      (all_mapped (λ l. All (λ x. x < most_listed) (map entry_of l)) (λ r. All (λ x. x < most_listed) r) (map entry_of) (λ l h. h) (state_of c).propagated
      (all_places (λ l. All (λ x. x < most_listed) (map entry_of l)) (state_of c).propagated [] (λ t l. unfold events in entries_low t))) i)
