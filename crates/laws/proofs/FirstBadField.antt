-- A case handed without bytes is refused as the reader would for its first bad field (01, "When the desk says no").
-- Assumes nothing.
use Prim.Native.Nat.{ℕ, zero, suc, ◌+◌, ◌^◌, ◌≤◌, ◌<◌}
use native.Mathlib.Nat.{zero-add}
use native.Mathlib.Omega.{arith}
use mathlib.Core.Path.{◌≡◌, refl, ap, ◌∙◌, subst}
use mathlib.Core.Bool.{Bool, true, false, not, cond, ◌&&◌, ◌||◌}
use mathlib.Core.Logic.{inl, ⊎_elim}
use mathlib.Core.List.{List, [], ◌∷◌, ◌++◌}
use lib.Dec.{leb, ltb, lit<, lit≤}
use lib.ListN.{length}
use borrow.Author.Tests.{leb-true, ne_eqb}
use Rattle.finite.specs.Tests.{count}
use Rattle.finite.specs.Lists.{each, every, All, AllFrom}
use Rattle.finite.proofs.Tests.{and_l, and_r, count-le}
use Rattle.finite.proofs.Lists.{one_longer}
use Rattle.finite.proofs.All.{all_map, all_make, all_three}
use Rattle.number.specs.Number.{groups, encode}
use Rattle.number.specs.Reader.{Out, stop, next, give, ◌>>=◌, turns, another, times, up_to, below}
use Rattle.codec.proofs.ReadsAs.{reads_give}
use Rattle.model.specs.Limits.{between, least_edition, most_edition, second, most_threads, most_addresses, most_events, most_dependencies, most_value, most_name}
use Rattle.model.specs.Case.{Case, Event, Dependency, most_kind, bare, most_class, printable}
use Rattle.model.specs.Rules.{or_else}
use Rattle.model.specs.Record.{event, dependency, dependency_good, dependency_rank, least_after, rising_dependency, rising_dependencies, dependencies, member, store_to, unlisted, write_order, next_write_order, order, printable_front, text, head, listing, rest, case, read}
use Rattle.model.specs.Written.{event_bytes, dependency_bytes, dependencies_bytes, order_bytes, record_of}
use Rattle.model.specs.Fault.{event_good, first_fault, dependency_within, dependency_fault, write_fault, writes_fault, name_fault, fault}
use Rattle.model.specs.Answers.{answer_of}
use Rattle.model.specs.Fits.{Shaped, Numbers, Stated, as_fault}
use Rattle.model.proofs.Faultless.{passed, between-least, between_most, least_first, least-next, else_first}
use Rattle.laws.proofs.Names.{reads_bytes}
use Rattle.laws.proofs.ReadOrders.{reads_all-orders}
use Rattle.laws.proofs.Parts.{kinds_most, head_bytes, head_of, listing_bytes, listing_of, rest_bytes, rest_of, parted}
use Rattle.laws.proofs.Faulty.{Meets, Faulty, Wide, along, Steps, two, three, if_passed, listed, apart, faultless_read, faulty_as, faulty_last, faulty_bind, faulty_then, faulty_unless, faulty_up_to, faulty_within, faulty_below, faulty_under, faulty_turns, faulty_times}

-- ---- faults of lists, by what stands before

module _ (k : ℕ) (good : Dependency → Bool) where
  -- of a dependency
  link_flaw : List Dependency → Dependency → ℕ
  link_flaw before d = first_fault (or_else (dependency_within k d) 3 0) (or_else (leb (least_after k before) (dependency_rank k d) && good d) 4 0)

  link_flaws : (before ds : List Dependency) → along link_flaw before ds ≡ dependency_fault k good (least_after k before) ds
  unfolding link_flaw dependency_fault
  link_flaws before [] = refl
  link_flaws before (d ∷ ds) =
      rw (link_flaws (before ++ (d ∷ [])) ds, least-next k before d) (listed (dependency_within k d) (leb (least_after k before) (dependency_rank k d) && good d) _)

module _ (k : ℕ) (mine : ℕ → Bool) where
  -- of an entry of a write order
  write_flaw : List ℕ → ℕ → ℕ
  write_flaw before e = first_fault (or_else (ltb e k) 3 0) (or_else (mine e && not (member e before)) 4 0)

  write_flaws : (before w : List ℕ) → along write_flaw before w ≡ write_fault k mine before w
  unfolding write_flaw write_fault
  write_flaws before [] = refl
  write_flaws before (e ∷ w) = rw (write_flaws (before ++ (e ∷ [])) w) (listed (ltb e k) (mine e && not (member e before)) _)

module _ (k : ℕ) (mine : ℕ → ℕ → Bool) where
  writes_flaws : (before ws : List (List ℕ)) → along (λ b w. write_fault k (mine (length b)) [] w) before ws ≡ writes_fault k mine (length before) ws
  unfolding writes_fault
  writes_flaws before [] = refl
  writes_flaws before (w ∷ ws) = rw (writes_flaws (before ++ (w ∷ [])) ws, one_longer before w)

-- ---- the parts of a record

module _ (W : Type 0) where
  -- the numbers of an event and of a dependency, where W holds of those that have too many groups
  abbrev EventWide : Event → Type 0
  EventWide e = Wide W e.kind × Wide W e.thread × Wide W e.address × Wide W e.value

  faulty_event : (edition n m : ℕ) (e : Event) → 0 < n → 0 < m → n ≤ 128 ^ groups → m ≤ 128 ^ groups
      → (bare e.kind ≡ true → e.address ≡ 0) → (bare e.kind ≡ true → e.value ≡ 0) → EventWide e
      → Faulty W (event edition n m) (event_bytes e) e (or_else (event_good edition n m e) 3 0)
  unfolding event event_bytes event_good
  faulty_event edition n m e ln lm hn hm na nv w =
      faulty_as (three (leb e.kind (most_kind edition)) (ltb e.thread n) (bare e.kind || (ltb e.address m && leb e.value most_value)))
      (faulty_bind _ (faulty_up_to (most_kind edition) e.kind (omega (arith, kinds_most edition)) w.0) (λ z.
      faulty_bind _ (faulty_below n e.thread ln hn w.1) (λ z. go (bare e.kind) refl)))
    where
      go : (x : Bool) → bare e.kind ≡ x
          → Faulty W (cond (bare e.kind) (give (record { kind = e.kind; thread = e.thread; address = 0; value = 0 }))
          (below m >>= λ a. up_to most_value >>= λ v. give (record { kind = e.kind; thread = e.thread; address = a; value = v })))
          (cond (bare e.kind) [] (encode e.address ++ encode e.value)) e (or_else (bare e.kind || (ltb e.address m && leb e.value most_value)) 3 0)
      go true p =
          let whole : ◌≡◌ {A = Event} e (record { kind = e.kind; thread = e.thread; address = 0; value = 0 }) =
          λ i. record { kind = e.kind; thread = e.thread; address = na p i; value = nv p i } in
          rw p (subst (λ (x : Event). Faulty W (give x) [] e 0) whole (faultless_read (reads_give e)))
      go false p =
          rw p (faulty_as (two (ltb e.address m) (leb e.value most_value))
          (faulty_bind _ (faulty_below m e.address lm hm w.2) (λ z. faulty_last _ (faulty_up_to most_value e.value (lit< tt) w.3))))

  abbrev LinkWide : Dependency → Type 0
  LinkWide d = Wide W d.class × Wide W d.from × Wide W d.to

  faulty_dependency : (k : ℕ) (d : Dependency) → k < 128 ^ groups → LinkWide d → Faulty W (dependency k) (dependency_bytes d) d (or_else (dependency_within k d) 3 0)
  unfolding dependency dependency_bytes
  faulty_dependency k d f w =
      faulty_as (three (leb d.class most_class) (ltb d.from k) (ltb d.to k))
      (faulty_bind _ (faulty_up_to most_class d.class (lit< tt) w.0) (λ z.
      faulty_bind _ (faulty_under k d.from f w.1) (λ z. faulty_last _ (faulty_under k d.to f w.2))))

  module _ (k : ℕ) (good : Dependency → Bool) where
    link-steps : (before ds : List Dependency) → k < 128 ^ groups → All LinkWide ds
        → Steps W (λ b. rising_dependency k (least_after k b) good) dependency_bytes (link_flaw k good) before ds
    unfolding rising_dependency link_flaw
    link-steps before [] f w = tt
    link-steps before (d ∷ ds) f w = (faulty_unless 3 (lit≤ tt) _ (faulty_dependency k d f w.0), link-steps (before ++ (d ∷ [])) ds f w.1)

  faulty_links : (edition k : ℕ) (good : Dependency → Bool) (ds : List Dependency) → (second edition ≡ false → ds ≡ []) → k < 128 ^ groups
      → Wide W (length ds) → All LinkWide ds
      → Faulty W (dependencies edition k good) (dependencies_bytes edition ds) ds
      (or_else (leb (length ds) most_dependencies) 3 (dependency_fault k good 0 ds))
  unfolding dependencies rising_dependencies dependencies_bytes
  faulty_links edition k good ds none f i w = go (second edition) refl
    where
      go : (x : Bool) → second edition ≡ x
          → Faulty W (cond x (up_to most_dependencies >>= λ i. turns i (λ b. another (rising_dependency k (least_after k b) good) b) []) (give []))
          (cond x (encode (length ds) ++ each dependency_bytes ds) []) ds (or_else (leb (length ds) most_dependencies) 3 (dependency_fault k good 0 ds))
      go true p =
          faulty_as (if_passed (leb (length ds) most_dependencies) _ ∙ ap (or_else (leb (length ds) most_dependencies) 3) (link_flaws k good [] ds ∙ rw (least_first k)))
          (faulty_bind _ (faulty_up_to most_dependencies (length ds) (lit< tt) i) (λ z.
          faulty_turns (λ b. rising_dependency k (least_after k b) good) dependency_bytes (link_flaw k good) [] ds (link-steps k good [] ds f w)))
      go false p = rw (none p) (unfold dependency_fault in faultless_read (reads_give []))

  -- ---- write orders

  module _ (k : ℕ) (mine : ℕ → Bool) where
    write-steps : 0 < k → k ≤ 128 ^ groups → (before w : List ℕ) → All (Wide W) w
        → Steps W (λ b. unlisted k mine (λ e. member e b)) encode (write_flaw k mine) before w
    unfolding unlisted write_flaw
    write-steps p f before [] w = tt
    write-steps p f before (e ∷ es) w = (faulty_unless 3 (lit≤ tt) _ (faulty_below k e p f w.0), write-steps p f (before ++ (e ∷ [])) es w.1)

    -- where a store is listed, there are events
    some-steps : k ≤ 128 ^ groups → (w : List ℕ) → length w ≡ count k mine → All (Wide W) w
        → Steps W (λ b. unlisted k mine (λ e. member e b)) encode (write_flaw k mine) [] w
    some-steps f [] l w = tt
    some-steps f (e ∷ es) l w = write-steps (omega (arith, count-le k mine)) f [] (e ∷ es) w

    faulty_write-order : k ≤ 128 ^ groups → (w : List ℕ) → length w ≡ count k mine → All (Wide W) w
        → Faulty W (write_order k mine) (each encode w) w (write_fault k mine [] w)
    unfolding write_order
    faulty_write-order f w l h =
        rw (← l) (faulty_as (write_flaws k mine [] w) (faulty_turns (λ b. unlisted k mine (λ e. member e b)) encode (write_flaw k mine) [] w (some-steps f w l h)))

  module _ (k : ℕ) (mine : ℕ → ℕ → Bool) where
    writes-steps : k ≤ 128 ^ groups → (before ws : List (List ℕ)) → AllFrom (λ x w. length w ≡ count k (mine x)) (length before) ws → All (All (Wide W)) ws
        → Steps W (λ b. write_order k (mine (length b))) (each encode) (λ b w. write_fault k (mine (length b)) [] w) before ws
    writes-steps f before [] l h = tt
    writes-steps f before (w ∷ ws) l h =
        (faulty_write-order k (mine (length before)) f w l.0 h.0, writes-steps f (before ++ (w ∷ [])) ws (rw (one_longer before w) l.1) h.1)

    faulty_writes : k ≤ 128 ^ groups → (ws : List (List ℕ)) → AllFrom (λ x w. length w ≡ count k (mine x)) 0 ws → All (All (Wide W)) ws
        → Faulty W (turns (length ws) (next_write_order k mine) []) (each (each encode) ws) ws (writes_fault k mine 0 ws)
    faulty_writes f ws l h =
        faulty_as (writes_flaws k mine [] ws) (faulty_turns (λ b. write_order k (mine (length b))) (each encode) (λ b w. write_fault k (mine (length b)) [] w) [] ws (writes-steps f [] ws l h))

  -- ---- the name

  faulty_text : (l : List ℕ) → Faulty W (text (length l)) l l (or_else (every printable l) 23 0)
  unfolding text
  faulty_text l = record { run = λ s at t b h. rw ((reads_bytes l).run s at t b h) (by at (every printable l)) }
    where
      by : (at : ℕ) (x : Bool) → Meets W l (at + length l) (or_else x 23 0) (cond x (next l (at + length l)) (stop 23 (at + printable_front l)))
      by at true = refl
      by at false = inl (refl, lit≤ tt)

-- ---- a case

-- the faults of the parts of its record
module _ (c : Case) where
  abbrev pub good_head : Bool
  good_head = between least_edition most_edition c.edition && between 1 most_threads c.n && between 1 most_addresses c.m

  abbrev pub listing_fault : ℕ
  listing_fault =
      or_else (every (λ v. leb v most_value) c.initials) 3 (or_else (leb c.k most_events) 3 (or_else (every (event_good c.edition c.n c.m) c.events) 3 0))

  abbrev pub links_fault : ℕ
  links_fault = or_else (leb (length c.dependencies) most_dependencies) 3 (dependency_fault c.k (dependency_good c.events) 0 c.dependencies)

  abbrev pub rest_fault : ℕ
  rest_fault = first_fault (writes_fault c.k (store_to c.events) 0 c.writes) (name_fault c.name)

  pub by_parts : or_else good_head 3 (first_fault listing_fault (first_fault links_fault rest_fault)) ≡ fault c
  unfolding fault
  by_parts =
      apart (between least_edition most_edition c.edition) (between 1 most_threads c.n) (between 1 most_addresses c.m) _
      ∙ simp (← else_first)

module _ (W : Type 0) (c : Case) (S : Shaped c) (N : Numbers (Wide W) c) where
  pub faulty_head : Faulty W head (head_bytes (head_of c)) (head_of c) (or_else (good_head c) 3 0)
  unfolding head
  faulty_head =
      faulty_as (three (between least_edition most_edition c.edition) (between 1 most_threads c.n) (between 1 most_addresses c.m))
      (faulty_bind _ (faulty_within least_edition most_edition c.edition (lit< tt) N.edition) (λ z.
      faulty_bind _ (faulty_within 1 most_threads c.n (lit< tt) N.n) (λ z.
      faulty_last _ (faulty_within 1 most_addresses c.m (lit< tt) N.m))))

  module _ (h : (good_head c) ≡ true) where
    threads : between 1 most_threads c.n ≡ true
    threads = and_r (between least_edition most_edition c.edition) _ (and_l (between least_edition most_edition c.edition && between 1 most_threads c.n) _ h)

    addresses : between 1 most_addresses c.m ≡ true
    addresses = and_r (between least_edition most_edition c.edition && between 1 most_threads c.n) _ h

    n_least : 1 ≤ c.n
    n_least = between-least 1 most_threads c.n threads

    n_most : c.n ≤ most_threads
    n_most = between_most 1 most_threads c.n threads

    m_least : 1 ≤ c.m
    m_least = between-least 1 most_addresses c.m addresses

    m_most : c.m ≤ most_addresses
    m_most = between_most 1 most_addresses c.m addresses

    faulty_initials : Faulty W (times c.m (up_to most_value)) (each encode c.initials) c.initials (or_else (every (λ v. leb v most_value) c.initials) 3 0)
    faulty_initials =
        rw S.m (faulty_times (up_to most_value) encode (λ v. leb v most_value) c.initials
        (all_map _ _ (λ v w. faulty_up_to most_value v (lit< tt) w) c.initials N.initials))

    faulty_events : Faulty W (times c.k (event c.edition c.n c.m)) (each event_bytes c.events) c.events
        (or_else (every (event_good c.edition c.n c.m) c.events) 3 0)
    faulty_events =
        rw S.k (faulty_times (event c.edition c.n c.m) event_bytes (event_good c.edition c.n c.m) c.events
        (all_three _ _ _ _ (λ e a v w. faulty_event W c.edition c.n c.m e n_least m_least (omega (arith, n_most)) (omega (arith, m_most)) a v w)
        c.events S.no_address S.no_value N.events))

    pub faulty_listing : Faulty W (listing c.edition c.n c.m) (listing_bytes (listing_of c)) (listing_of c) (listing_fault c)
    unfolding listing
    faulty_listing =
        faulty_then _ (every (λ v. leb v most_value) c.initials) faulty_initials (λ z.
        faulty_then _ (leb c.k most_events) (faulty_up_to most_events c.k (lit< tt) N.k) (λ z.
        faulty_last _ faulty_events))

  module _ (few : c.k ≤ most_events) where
    pub faulty_orders : Faulty W (times c.n (order c.k)) (each (order_bytes c.k) c.orders) c.orders 0
    faulty_orders = rw S.n (faultless_read (reads_all-orders c.k c.orders few S.orders))

    pub faulty_all_links : Faulty W (dependencies c.edition c.k (dependency_good c.events)) (dependencies_bytes c.edition c.dependencies) c.dependencies (links_fault c)
    faulty_all_links =
        faulty_links W c.edition c.k (dependency_good c.events) c.dependencies S.no_dependencies (omega arith) N.dependencies_count N.dependencies

    pub faulty_all-writes : Faulty W (turns c.m (next_write_order c.k (store_to c.events)) []) (each (each encode) c.writes) c.writes
        (writes_fault c.k (store_to c.events) 0 c.writes)
    faulty_all-writes = rw S.m' (faulty_writes W c.k (store_to c.events) (omega arith) c.writes S.writes N.writes)

    faulty_rest : Faulty W (rest c.n c.m c.k (store_to c.events)) (rest_bytes c.k (rest_of c)) (rest_of c)
        (rest_fault c)
    unfolding rest name_fault
    faulty_rest =
        faulty_bind _ faulty_all-writes (λ z.
        faulty_bind _ faulty_orders (λ z.
        faulty_then _ (leb (length c.name) most_name) (faulty_up_to most_name (length c.name) (lit< tt) N.name_count) (λ z.
        faulty_last _ (faulty_text W c.name))))

  pub faulty_case : Faulty W case (record_of c) c (fault c)
  unfolding case
  faulty_case =
      rw (parted c) (faulty_as (by_parts c)
      (faulty_then _ (good_head c) faulty_head (λ h.
      faulty_bind _ (faulty_listing h) (λ z.
      let few : c.k ≤ most_events = leb-true c.k most_events (passed (leb c.k most_events) 2 _ (passed (every (λ v. leb v most_value) c.initials) 2 _ z).there).here in
      faulty_bind _ (faulty_all_links few) (λ z.
      faulty_last _ (faulty_rest few))))))

  -- reading the record of the case, whatever lies behind it
  reads_faulty : (t : List ℕ) → Meets W c (length (record_of c)) (fault c) (read (record_of c ++ t))
  unfolding read
  reads_faulty t = rw (zero-add (length (record_of c))) at (faulty_case.run (record_of c ++ t) 0 t (omega arith) refl)

-- ---- the numbers of a case

numbers-map : {P Q : ℕ → Type 0} → ((v : ℕ) → P v → Q v) → (c : Case) → Numbers P c → Numbers Q c
numbers-map {P} {Q} f c N = record {
  edition = f _ N.edition;
  n = f _ N.n;
  m = f _ N.m;
  initials = all_map P Q f c.initials N.initials;
  k = f _ N.k;
  events = all_map _ _ (λ e h. (f _ h.0, f _ h.1, f _ h.2, f _ h.3)) c.events N.events;
  dependencies_count = f _ N.dependencies_count;
  dependencies = all_map _ _ (λ d h. (f _ h.0, f _ h.1, f _ h.2)) c.dependencies N.dependencies;
  writes = all_map _ _ (λ w h. all_map P Q f w h) c.writes N.writes;
  name_count = f _ N.name_count;
}

pub every-number : {P : ℕ → Type 0} → ((v : ℕ) → P v) → (c : Case) → Numbers P c
every-number {P} f c = record {
  edition = f _;
  n = f _;
  m = f _;
  initials = all_make P f c.initials;
  k = f _;
  events = all_make _ (λ e. (f _, f _, f _, f _)) c.events;
  dependencies_count = f _;
  dependencies = all_make _ (λ d. (f _, f _, f _)) c.dependencies;
  writes = all_make _ (λ w. all_make P f w) c.writes;
  name_count = f _;
}

-- ---- what a refusal tells

module _ {A : Type 0} (W : Type 0) where
  meets_fault : (W → ⊥) → (a : A) (p x : ℕ) (o : Out A) → Meets W a p x o → (answer_of o).number ≡ x
  meets_fault never a p zero o e = rw e
  meets_fault never a p (suc x) (stop y q) m = ⊎_elim (λ h. h.0) (λ h. absurd (never h.2)) m
  meets_fault never a p (suc x) (next b q) m = absurd m

  meets_as_fault : (a : A) (p x : ℕ) (o : Out A) → Meets W a p x o → as_fault (answer_of o).number ≡ x
  meets_as_fault a p zero o e = rw e
  meets_as_fault a p (suc x) (stop y q) m = ⊎_elim (λ h. rw (h.0, ne_eqb (suc x) 2 (λ e. omega (arith, h.1)))) (λ h. rw (h.0, h.1)) m
  meets_as_fault a p (suc x) (next b q) m = absurd m

-- 01: "The writer gives 3 or 4 as the reader would for the first bad field", and 02 (xi)'s 23: of every case that the layout can
-- state, the fault is what reading its record is refused with, whatever lies behind it; 0 where it is read
pub first_bad_field : (c : Case) → Shaped c → Stated c → (t : List ℕ) → (answer_of (read (record_of c ++ t))).number ≡ fault c
first_bad_field c S N t = meets_fault ⊥ (λ z. z) c _ _ _ (reads_faulty ⊥ c S (numbers-map (λ v l h. omega arith) c N) t)

-- the same of every case: where a number has too many groups, reading gives 2 for 3
pub first_bad_field_any : (c : Case) → Shaped c → (t : List ℕ) → as_fault (answer_of (read (record_of c ++ t))).number ≡ fault c
first_bad_field_any c S t = meets_as_fault Unit c _ _ _ (reads_faulty Unit c S (every-number (λ v h. tt) c) t)
