-- The struct that holds a case means that case.
-- Assumes nothing.
use Prim.Native.Nat.{ℕ, zero, suc, ◌+◌, ◌*◌, ◌%◌, ◌^◌, ◌≤◌, ◌<◌}
use native.Mathlib.Nat.{zero-add, zero-mul, not-suc-le-zero, le_of_suc-le-suc, mod-eq_of_lt}
use native.Mathlib.Omega.{arith}
use mathlib.Core.Path.{◌≡◌, refl, ap, sym, ◌∙◌}
use mathlib.Core.Bool.{Bool, true, false, cond}
use mathlib.Core.List.{List, [], ◌∷◌, ◌++◌, map, append_assoc}
use lib.ListN.{length, get_or, length-map, get_or-append}
use lib.Seq.{get_or-append-add}
use Rattle.finite.specs.Tests.{count}
use Rattle.finite.specs.Lists.{table}
use Rattle.finite.proofs.Tests.{count-le}
use Rattle.finite.proofs.Lists.{table_same, as_table}
use Rattle.finite.proofs.All.{all_at, from_at}
use Rattle.model.specs.Limits.{second, most_addresses, most_events, most_dependencies, most_name}
use Rattle.model.specs.Case.{Case, Event, no_event, bare}
use Rattle.model.specs.Record.{store_to}
use Rattle.model.specs.Fits.{EventFits, Fits}
use Rattle.model.proofs.WriteOrders.{writes_from}
use Rattle.case.specs.Held.{pad, rows_of, held, event_of, events_of, link, link_count, links_of, case_of}
use Rattle.case.proofs.Events.{event_by}
use Rattle.case.proofs.Pad.{length-pad, pad_get}

-- what a case keeps that a struct can hold
pub record Holds (c : Case) : Type 0 where
  pub initials : length c.initials ≡ c.m
  pub events : length c.events ≡ c.k
  pub bares : (e : ℕ) → e < c.k → bare (get_or c.events e no_event).kind ≡ true → ((get_or c.events e no_event).address ≡ 0) × ((get_or c.events e no_event).value ≡ 0)
  pub no_links : second c.edition ≡ false → c.dependencies ≡ []
  pub writes : length c.writes ≡ c.m
  pub written : (x : ℕ) → x < c.m → length (get_or c.writes x []) ≡ count c.k (store_to c.events x)
  pub few : c.k ≤ most_events
  pub orders : length c.orders ≡ c.n
  pub rows : (p : ℕ) → p < c.n → length (get_or c.orders p []) ≡ c.k
  pub small : (p a : ℕ) → p < c.n → a < c.k → get_or (get_or c.orders p []) a 0 < 2 ^ c.k

-- ---- lists back from tables
pub back : {A : Type 0} (l : List A) (d : A) (j : ℕ) (f : ℕ → A) → length l ≡ j → ((i : ℕ) → i < j → f i ≡ get_or l i d) → table 0 j f ≡ l
back l d j f e h = table_same 0 j f (λ i. get_or l i d) (λ i a b. h i (omega arith)) ∙ sym (as_table l d j e)

-- a field of each event or dependency
pub in_fields : {A : Type 0} (n : ℕ) (f : A → ℕ) (d : A) (es : List A) (e : ℕ) → e < length es → get_or (pad n (map f es)) e 0 ≡ f (get_or es e d)
in_fields {A} n f d es e h = pad_get n (map f es) e (rw (length-map es f) h) ∙ at es e h
  where
    at : (es : List A) (e : ℕ) → e < length es → get_or (map f es) e 0 ≡ f (get_or es e d)
    at [] e h = absurd (not-suc-le-zero h)
    at (x ∷ es) zero h = refl
    at (x ∷ es) (suc e) h = at es e (le_of_suc-le-suc h)

-- row x of rows that have n places each
pub in_rows : (n : ℕ) (rs : List (List ℕ)) (z : List ℕ) (x i : ℕ) → x < length rs → ((y : ℕ) → y < length rs → length (get_or rs y []) ≤ n) → i < length (get_or rs x [])
    → get_or (rows_of n rs ++ z) (x * n + i) 0 ≡ get_or (get_or rs x []) i 0
unfolding rows_of pad
in_rows n [] z x i h b l = absurd (not-suc-le-zero h)
in_rows n (r ∷ rs) z zero i h b l =
    let e : 0 * n + i ≡ i = rw (zero-mul n) (zero-add i) in
    rw (e, append_assoc (pad n r) (rows_of n rs) z, append_assoc r) (get_or-append r _ 0 i l)
in_rows n (r ∷ rs) z (suc x) i h b l =
    let m : length (pad n r) ≡ n = length-pad n r (b 0 (omega arith)) in
    let far : suc x * n + i ≡ length (pad n r) + (x * n + i) = rw m (omega arith) in
    ap (λ (j : ℕ). get_or (rows_of n (r ∷ rs) ++ z) j 0) far
    ∙ ap (λ (k : List ℕ). get_or k (length (pad n r) + (x * n + i)) 0) (append_assoc (pad n r) (rows_of n rs) z)
    ∙ get_or-append-add (pad n r) (rows_of n rs ++ z) (x * n + i) 0
    ∙ in_rows n rs z x i (le_of_suc-le-suc h) (λ y a. b (suc y) (omega arith)) l

-- ---- an event
event_again : (v : Event) → (bare v.kind ≡ true → (v.address ≡ 0) × (v.value ≡ 0)) → event_of v.kind v.thread v.address v.value ≡ v
event_again v s =
    event_by (λ e. e ≡ v) v.kind v.thread v.address v.value
    (λ h i. record { kind = v.kind; thread = v.thread; address = sym (s h).0 i; value = sym (s h).1 i }) (λ h. refl)

module _ (c : Case) (H : Holds c) where
  events_back : events_of (held c).events (held c).kind (held c).thread (held c).address (held c).value ≡ c.events
  unfolding events_of held
  events_back =
      back c.events no_event c.k _ H.events
      (λ e h.
      let l : e < length c.events = omega (arith, H.events) in
      rw (in_fields most_events (λ x. x.kind) no_event c.events e l, in_fields most_events (λ x. x.thread) no_event c.events e l, in_fields most_events (λ x. x.address) no_event c.events e l, in_fields most_events (λ x. x.value) no_event c.events e l)
      (event_again (get_or c.events e no_event) (H.bares e h)))

  links_counted : link_count c.edition (length c.dependencies) ≡ length c.dependencies
  unfolding link_count
  links_counted = go (second c.edition) refl
    where
      go : (x : Bool) → second c.edition ≡ x → cond x (length c.dependencies) 0 ≡ length c.dependencies
      go true e = refl
      go false e = sym (ap length (H.no_links e))

  links_back : links_of (link_count (held c).edition (held c).dependencies) (held c).class (held c).from (held c).to ≡ c.dependencies
  unfolding links_of held
  links_back =
      back c.dependencies (link 0 0 0) _ _ (sym links_counted)
      (λ i h.
      let l : i < length c.dependencies = omega (arith, links_counted) in
      rw (in_fields most_dependencies (λ x. x.class) (link 0 0 0) c.dependencies i l, in_fields most_dependencies (λ x. x.from) (link 0 0 0) c.dependencies i l, in_fields most_dependencies (λ x. x.to) (link 0 0 0) c.dependencies i l))

  initials_back : table 0 c.m (λ x. get_or (held c).initial x 0) ≡ c.initials
  unfolding held
  initials_back = back c.initials 0 c.m _ H.initials (λ x h. pad_get most_addresses c.initials x (omega (arith, H.initials)))

  name_back : table 0 (length c.name) (λ i. get_or (held c).name i 0) ≡ c.name
  unfolding held
  name_back = back c.name 0 (length c.name) _ refl (λ i h. pad_get most_name c.name i h)

  write_back : (x : ℕ) → x < c.m → table 0 (count c.k (store_to c.events x)) (λ i. get_or (held c).writes (x * most_events + i) 0) ≡ get_or c.writes x []
  unfolding held pad
  write_back x h =
      back (get_or c.writes x []) 0 _ _ (H.written x h)
      (λ i l. in_rows most_events c.writes _ x i (omega (arith, H.writes))
      (λ y b. omega (arith, H.written y (omega (arith, H.writes)), count-le c.k (store_to c.events y), H.few)) (omega (arith, H.written x h)))

  row_back : (p : ℕ) → p < c.n → table 0 c.k (λ a. get_or (held c).rows (p * most_events + a) 0 % 2 ^ c.k) ≡ get_or c.orders p []
  unfolding held pad
  row_back p h =
      back (get_or c.orders p []) 0 c.k _ (H.rows p h)
      (λ a l.
      ap (λ (r : ℕ). r % 2 ^ c.k) (in_rows most_events c.orders _ p a (omega (arith, H.orders))
      (λ y b. omega (arith, H.rows y (omega (arith, H.orders)), H.few)) (omega (arith, H.rows p h)))
      ∙ mod-eq_of_lt (H.small p a h l))

  writes_back : (case_of (held c)).writes ≡ c.writes
  unfolding case_of
  writes_back = rw events_back (unfold held in back c.writes [] c.m _ H.writes (λ x h. write_back x h))

  orders_back : (case_of (held c)).orders ≡ c.orders
  unfolding case_of held
  orders_back = back c.orders [] c.n _ H.orders (λ p h. row_back p h)

  pub held_back : case_of (held c) ≡ c
  unfolding case_of held
  held_back = λ i. record {
    edition = c.edition;
    n = c.n;
    m = c.m;
    k = c.k;
    initials = initials_back i;
    events = events_back i;
    dependencies = links_back i;
    writes = writes_back i;
    orders = orders_back i;
    name = name_back i;
  }

-- ---- a case that keeps the limits
pub holds : (c : Case) → Fits c → Holds c
holds c F = record {
  initials = sym F.m;
  events = sym F.k;
  bares = λ e h t. let f = all_at (EventFits c.edition c.n c.m) c.events F.events e no_event (omega (arith, F.k)) in (f.no_address t, f.no_value t);
  no_links = F.no_dependencies;
  writes = sym F.m';
  written = λ x h. rw (zero-add x) at (from_at _ 0 c.writes (writes_from c.k (store_to c.events) [] c.writes F.writes) x [] (omega (arith, F.m'))).0;
  few = F.k_most;
  orders = sym F.n;
  rows = λ p h. (all_at _ c.orders F.orders p [] (omega (arith, F.n))).0;
  small = λ p a h l. let f = all_at _ c.orders F.orders p [] (omega (arith, F.n)) in all_at _ (get_or c.orders p []) f.1 a 0 (omega (arith, f.0));
}

pub fits_back : (c : Case) → Fits c → case_of (held c) ≡ c
fits_back c F = held_back c (holds c F)
