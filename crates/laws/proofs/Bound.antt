-- A record is bytes, and not longer than the limits allow.
-- Assumes nothing.
use Prim.Native.Nat.{ℕ, zero, suc, ◌+◌, ◌-◌, ◌*◌, ◌≤◌, ◌<◌}
use native.Mathlib.Nat.{mul-le-mul, mul-le-mul_right, zero-mul, suc-mul, add-mul, one-mul, le_refl, le_trans}
use native.Mathlib.Decide.{dec_lt}
use native.Mathlib.Omega.{arith}
use mathlib.Core.Path.{◌≡◌, refl, ap, ◌∙◌}
use mathlib.Core.Bool.{Bool, true, false, not, cond, ◌&&◌, ◌||◌}
use mathlib.Core.List.{List, [], ◌∷◌, ◌++◌, append_assoc}
use lib.Dec.{eqb, leb, ltb}
use lib.ListN.{length, get_or}
use borrow.Author.Tests.{leb-true, eqb-true, ne_eqb}
use Rattle.finite.specs.Tests.{count, tick}
use Rattle.finite.specs.Lists.{each, All}
use Rattle.finite.proofs.Tests.{and_l, and_r, count_mono}
use Rattle.finite.proofs.All.{all_map}
use Rattle.number.specs.Number.{encode_by, encode, Bytes}
use Rattle.codec.proofs.Few.{Few, ◌then◌, few_up_to, few-each}
use Rattle.model.specs.Limits.{most_edition, second, most_threads, most_addresses, most_events, most_dependencies, most_value, most_name}
use Rattle.model.specs.Case.{Case, Event, Dependency, no_event, load, store, most_kind, bare, by_address, most_class}
use Rattle.model.specs.Record.{Pair, rank, dependency_good, dependency_rank, least_after, store_to}
use Rattle.model.specs.Written.{event_bytes, dependency_bytes, dependencies_bytes, pair_bytes, rows_pairs, order_bytes, record_of}
use Rattle.model.specs.Bound.{size, most_event_bytes, most_order_bytes, most_dependency_bytes, least_loads, most_link_bytes, most_bytes}
use Rattle.model.specs.Fits.{EventFits, DependenciesFit, WriteFits, WritesFit, Fits}
use Rattle.model.proofs.WriteOrders.{WritesFrom, writes_from}
use Rattle.model.proofs.Faultless.{least_first, least-next}
use Rattle.laws.proofs.Names.{printable-bytes}
use Rattle.laws.proofs.Parts.{kinds_most}
use Rattle.laws.proofs.ReadOrder.{Rising, rising_rows, few-pairs}

-- ---- field by field

few-event : (edition n m : ℕ) (e : Event) → n ≤ most_threads → m ≤ most_addresses → EventFits edition n m e → Few (event_bytes e) most_event_bytes
unfolding event_bytes most_event_bytes
few-event edition n m e hn hm f =
    few_up_to e.kind (most_kind most_edition) (le_trans f.kind (unfold most_kind in kinds_most edition)) then few_up_to e.thread (most_threads - 1) (omega (arith, f.thread)) then go (bare e.kind) refl
  where
    go : (x : Bool) → bare e.kind ≡ x → Few (cond x [] (encode e.address ++ encode e.value)) (size (most_addresses - 1) + size most_value)
    go true p = record { most = omega arith; bytes = tt }
    go false p =
        few_up_to e.address (most_addresses - 1) (omega (arith, f.address p)) then few_up_to e.value most_value (f.value p)

-- ---- each event is a store to one address at most

module _ (es : List Event) where
  -- the stores below k to i addresses from x on, and those of them that e is
  abbrev pub stores : (x i k : ℕ) → ℕ
  stores x zero k = 0
  stores x (suc i) k = count k (store_to es x) + stores (suc x) i k

  abbrev ticks : (x i e : ℕ) → ℕ
  ticks x zero e = 0
  ticks x (suc i) e = tick (store_to es x e) + ticks (suc x) i e

  no-store : (x i : ℕ) → stores x i 0 ≡ 0
  unfolding count
  no-store x zero = refl
  no-store x (suc i) = omega (arith, no-store (suc x) i)

  one_store : (x i k : ℕ) → stores x i (suc k) ≡ stores x i k + ticks x i k
  unfolding count
  one_store x zero k = refl
  one_store x (suc i) k = omega (arith, one_store (suc x) i k)

  abbrev address_of : ℕ → ℕ
  address_of e = (get_or es e no_event).address

  other_address : (x e : ℕ) → address_of e < x → tick (store_to es x e) ≡ 0
  unfolding store_to
  other_address x e h = rw (ne_eqb (address_of e) x (λ p. omega arith)) (go (eqb (get_or es e no_event).kind store))
    where
      go : (y : Bool) → tick (y && false) ≡ 0
      go true = refl
      go false = refl

  its_address : (x e : ℕ) → store_to es x e ≡ true → address_of e ≡ x
  unfolding store_to
  its_address x e p = eqb-true (address_of e) x (and_r (eqb (get_or es e no_event).kind store) (eqb (address_of e) x) p)

  ticks_past : (x i e : ℕ) → address_of e < x → ticks x i e ≡ 0
  ticks_past x zero e h = refl
  ticks_past x (suc i) e h = omega (arith, other_address x e h, ticks_past (suc x) i e (omega arith))

  ticks_one : (x i e : ℕ) → ticks x i e ≤ 1
  ticks_one x zero e = omega arith
  ticks_one x (suc i) e = go (store_to es x e) refl (ticks_one (suc x) i e)
    where
      go : (y : Bool) → store_to es x e ≡ y → ticks (suc x) i e ≤ 1 → tick y + ticks (suc x) i e ≤ 1
      go false p ih = omega (arith, ih)
      go true p ih = let here : address_of e ≡ x = its_address x e p in omega (arith, ticks_past (suc x) i e (omega arith))

  -- a load is a store to no address
  abbrev load_at : ℕ → Bool
  load_at e = eqb (get_or es e no_event).kind load

  load_no_store : (x e : ℕ) → load_at e ≡ true → tick (store_to es x e) ≡ 0
  unfolding store_to
  load_no_store x e p = rw (eqb-true (get_or es e no_event).kind load p)

  ticks_load : (x i e : ℕ) → load_at e ≡ true → ticks x i e ≡ 0
  ticks_load x zero e p = refl
  ticks_load x (suc i) e p = omega (arith, load_no_store x e p, ticks_load (suc x) i e p)

  one_or_load : (x i e : ℕ) → ticks x i e + tick (load_at e) ≤ 1
  one_or_load x i e = go (load_at e) refl
    where
      go : (y : Bool) → load_at e ≡ y → ticks x i e + tick y ≤ 1
      go true p = omega (arith, ticks_load x i e p)
      go false p = omega (arith, ticks_one x i e)

  pub stores_most : (x i k : ℕ) → stores x i k + count k load_at ≤ k
  unfolding count
  stores_most x i zero = omega (arith, no-store x i)
  stores_most x i (suc k) = omega (arith, one_store x i k, one_or_load x i k, stores_most x i k)

  few-write : (k : ℕ) (mine : ℕ → Bool) (before w : List ℕ) → k ≤ most_events → WriteFits k mine before w → Few (each encode w) (length w * size (most_events - 1))
  few-write k mine before w l h = few-each encode (size (most_events - 1)) w (go before w h) (length w) (le_refl (length w))
    where
      go : (before w : List ℕ) → WriteFits k mine before w → All (λ e. Few (encode e) (size (most_events - 1))) w
      go before [] h = tt
      go before (e ∷ w) h = (few_up_to e (most_events - 1) (omega (arith, h.0)), go (before ++ (e ∷ [])) w h.2)

  few_from : (k x : ℕ) (ws : List (List ℕ)) → k ≤ most_events → WritesFrom k (store_to es) x ws
      → Few (each (each encode) ws) (stores x (length ws) k * size (most_events - 1))
  unfolding each
  few_from k x [] l h = record { most = omega arith; bytes = tt }
  few_from k x (w ∷ ws) l h =
      let b : ℕ = size (most_events - 1) in
      let this : Few (each encode w) (count k (store_to es x) * b) = rw h.0.0 at (few-write k (store_to es x) [] w l h.0.1) in
      let both : Few (each (each encode) (w ∷ ws)) (count k (store_to es x) * b + stores (suc x) (length ws) k * b) = this then few_from k (suc x) ws l h.1 in
      record { most = rw add-mul both.most; bytes = both.bytes }

  few_writes : (k : ℕ) (ws : List (List ℕ)) → k ≤ most_events → WritesFit k (store_to es) [] ws
      → Few (each (each encode) ws) (stores 0 (length ws) k * size (most_events - 1))
  few_writes k ws l h = few_from k 0 ws l (writes_from k (store_to es) [] ws h)

-- ---- each load begins a dependency of each class to each event at most

module _ (k : ℕ) (good : Dependency → Bool) (is_load : ℕ → Bool) (from-load : (d : Dependency) → good d ≡ true → is_load d.from ≡ true) where
  -- so many dependencies may begin at loads below a
  abbrev capacity : ℕ → ℕ
  capacity a = count a is_load * k * (most_class + 1)

  capacity_mono : (a b : ℕ) → a ≤ b → capacity a ≤ capacity b
  capacity_mono a b h = mul-le-mul_right (most_class + 1) (mul-le-mul_right k (count_mono a b is_load h))

  capacity_next : (a : ℕ) → is_load a ≡ true → capacity (suc a) ≡ capacity a + k * (most_class + 1)
  unfolding count
  capacity_next a e = rw e (ap (λ (x : ℕ). x * (most_class + 1)) (add-mul (count a is_load) 1 k ∙ rw one-mul) ∙ add-mul (count a is_load * k) k (most_class + 1))

  -- j of them have a rank below that of class 0 from a to 0, and r more
  record Counted (j a r : ℕ) : Type 0 where
    here : j ≤ capacity a + cond (is_load a) r 0
    whole : j ≤ capacity k
    short : r ≤ k * (most_class + 1)

  next-counted : (j a r from o : ℕ) → Counted j a r → is_load from ≡ true → from < k → o < k * (most_class + 1)
      → a * k * (most_class + 1) + r ≤ from * k * (most_class + 1) + o → Counted (j + 1) from (o + 1)
  next-counted j a r from o C e l h up = record { here = rw e (omega (arith, behind (dec_lt a from) (dec_lt from a))); whole = omega (arith, behind (dec_lt a from) (dec_lt from a), capacity_next from e, capacity_mono (suc from) k l); short = omega (arith, h) }
    where
      behind : Dec (a < from) → Dec (from < a) → j ≤ capacity from + o
      behind (yes b) _ = omega (arith, past (is_load a) refl, capacity_mono (suc a) from b)
        where
          past : (x : Bool) → is_load a ≡ x → j ≤ capacity (suc a)
          past true p = omega (arith, rw p at C.here, C.short, capacity_next a p)
          past false p = omega (arith, rw p at C.here, capacity_mono a (suc a) (omega arith))
      behind (no _) (yes b) =
          let top : suc from * k ≤ a * k = mul-le-mul_right k b in
          let top' : from * k + k ≤ a * k = rw suc-mul at top in
          absurd (omega arith)
      behind (no b) (no b') =
          let z : a ≡ from = omega arith in
          let here : j ≤ capacity from + cond true r 0 = rw (z, e) at C.here in
          let up' : from * k * (most_class + 1) + r ≤ from * k * (most_class + 1) + o = rw z at up in
          omega arith

  few_links : (before ds : List Dependency) (j a r : ℕ) → DependenciesFit k good before ds → least_after k before ≡ a * k * (most_class + 1) + r
      → Counted j a r → j + length ds ≤ capacity k
  few_links before [] j a r h e C = omega (arith, C.whole)
  few_links before (d ∷ ds) j a r h e C =
      let test = h.1 in
      let up : least_after k before ≤ dependency_rank k d = leb-true _ _ (and_l (leb (least_after k before) (dependency_rank k d)) (good d) test) in
      let start : is_load d.from ≡ true = from-load d (and_r (leb (least_after k before) (dependency_rank k d)) (good d) test) in
      let o : ℕ = d.to * (most_class + 1) + d.class in
      let rank : dependency_rank k d ≡ d.from * k * (most_class + 1) + o = omega (arith, add-mul (d.from * k) d.to (most_class + 1)) in
      let next : Counted (j + 1) d.from (o + 1) =
      next-counted j a r d.from o C start h.0.from (omega (arith, h.0.to, h.0.class)) (omega arith) in
      let rest = few_links (before ++ (d ∷ [])) ds (j + 1) d.from (o + 1) h.2 (least-next k before d ∙ omega (arith, rank)) next in
      omega (arith, rest)

  pub links_most : (ds : List Dependency) → DependenciesFit k good [] ds → length ds ≤ capacity k
  links_most ds h =
      let none : Counted 0 0 0 = record { here = omega arith; whole = omega arith; short = omega arith } in
      omega (arith, few_links [] ds 0 0 0 h (least_first k ∙ omega (arith, zero-mul k)) none)

-- a good dependency begins at a load
starts_load : (es : List Event) (d : Dependency) → dependency_good es d ≡ true → eqb (get_or es d.from no_event).kind load ≡ true
unfolding dependency_good
starts_load es d t =
    and_l (eqb (get_or es d.from no_event).kind load) (ltb d.from d.to)
    (and_l _ (eqb (get_or es d.from no_event).thread (get_or es d.to no_event).thread)
    (and_l _ (not (bare (get_or es d.to no_event).kind))
    (and_l _ (eqb d.class by_address || eqb (get_or es d.to no_event).kind store) t)))

few-dependencies : (k : ℕ) (good : Dependency → Bool) (before ds : List Dependency) → k ≤ most_events → DependenciesFit k good before ds
    → Few (each dependency_bytes ds) (length ds * most_dependency_bytes)
unfolding dependency_bytes most_dependency_bytes
few-dependencies k good before ds l h = few-each dependency_bytes _ ds (go before ds h) (length ds) (le_refl (length ds))
  where
    go : (before ds : List Dependency) → DependenciesFit k good before ds
        → All (λ d. Few (dependency_bytes d) (size most_class + (size (most_events - 1) + size (most_events - 1)))) ds
    go before [] h = tt
    go before (d ∷ ds) h = (
      few_up_to d.class most_class h.0.class
          then few_up_to d.from (most_events - 1) (omega (arith, h.0.from)) then few_up_to d.to (most_events - 1) (omega (arith, h.0.to)),
      go (before ++ (d ∷ [])) ds h.2,
    )

-- a dependency takes no less than an entry of a write order
entry_least : size (most_events - 1) ≤ most_dependency_bytes
unfolding most_dependency_bytes
entry_least = omega arith

-- the more dependencies, the more loads, and the fewer stores
fewer-stores : (d stores loads k b s : ℕ) → d ≤ most_dependencies → d ≤ loads * k * (most_class + 1) → stores + loads ≤ k → k ≤ most_events → s ≤ b
    → d * b + stores * s ≤ most_dependencies * b + (most_events - least_loads) * s
fewer-stores d stores loads k b s hd hl hs hk le =
    let x : ℕ = most_dependencies - d in
    let y : ℕ = stores - (most_events - least_loads) in
    let wide : loads * k ≤ loads * most_events = mul-le-mul (le_refl loads) hk in
    let yx : y ≤ x = omega arith in
    let left : (d + x) * b ≡ d * b + x * b = add-mul d x b in
    let all : d + x ≡ most_dependencies = omega arith in
    let top : stores * s ≤ (most_events - least_loads + y) * s = mul-le-mul_right s (omega arith) in
    let right : (most_events - least_loads + y) * s ≡ (most_events - least_loads) * s + y * s = add-mul (most_events - least_loads) y s in
    let less : y * s ≤ x * b = mul-le-mul yx le in
    let left' : most_dependencies * b ≡ d * b + x * b = rw all at left in
    omega arith

-- dependencies and write orders together
few-linked : (c : Case) → Fits c → Few (dependencies_bytes c.edition c.dependencies ++ each (each encode) c.writes) (most_link_bytes c.edition)
unfolding dependencies_bytes most_link_bytes
few-linked c F = go (second c.edition)
  where
    stored : ℕ
    stored = stores c.events 0 (length c.writes) c.k

    written : Few (each (each encode) c.writes) (stored * size (most_events - 1))
    written = few_writes c.events c.k c.writes F.k_most F.writes

    linked : Few (each dependency_bytes c.dependencies) (length c.dependencies * most_dependency_bytes)
    linked = few-dependencies c.k (dependency_good c.events) [] c.dependencies F.k_most F.dependencies

    numbered : Few (encode (length c.dependencies)) (size most_dependencies)
    numbered = few_up_to (length c.dependencies) most_dependencies F.dependencies_most

    loads-stores : stored + count c.k (load_at c.events) ≤ c.k
    loads-stores = stores_most c.events 0 (length c.writes) c.k

    begun : length c.dependencies ≤ count c.k (load_at c.events) * c.k * (most_class + 1)
    begun = links_most c.k (dependency_good c.events) (load_at c.events) (starts_load c.events) c.dependencies F.dependencies

    go : (x : Bool) → Few (cond x (encode (length c.dependencies) ++ each dependency_bytes c.dependencies) [] ++ each (each encode) c.writes)
        (cond x (size most_dependencies + (most_dependencies * most_dependency_bytes + (most_events - least_loads) * size (most_events - 1))) (most_events * size (most_events - 1)))
    go true =
        let all = (numbered then linked) then written in
        let less =
        fewer-stores (length c.dependencies) stored (count c.k (load_at c.events)) c.k most_dependency_bytes (size (most_events - 1))
        F.dependencies_most begun loads-stores F.k_most entry_least in
        record { most = omega (arith, all.most, less); bytes = all.bytes }
    go false = record { most = le_trans written.most (mul-le-mul_right (size (most_events - 1)) (omega (arith, loads-stores, F.k_most))); bytes = written.bytes }

-- ---- orders

few-order : (k : ℕ) (rows : List ℕ) → k ≤ most_events → length rows ≡ k → Few (order_bytes k rows) most_order_bytes
unfolding order_bytes pair_bytes most_order_bytes
few-order k rows h e =
    let ps : List Pair = rows_pairs k 0 rows in
    let up : Rising k 0 ps = rw zero-mul at (rising_rows k 0 rows (omega arith)) in
    let square : k * k ≤ most_events * most_events = mul-le-mul h h in
    let many : length ps ≤ most_events * most_events = omega (arith, few-pairs k 0 ps (omega arith) up) in
    few_up_to (length ps) (most_events * most_events) many then few-each pair_bytes _ ps (go 0 ps up) (most_events * most_events) many
  where
    go : (least : ℕ) (ps : List Pair) → Rising k least ps → All (λ p. Few (pair_bytes p) (size (most_events - 1) + size (most_events - 1))) ps
    go least [] r = tt
    go least (p ∷ ps) r =
        (few_up_to p.a (most_events - 1) (omega (arith, r.0)) then few_up_to p.b (most_events - 1) (omega (arith, r.1)), go (rank k p + 1) ps r.3)

-- ---- the record

module _ (c : Case) (F : Fits c) where
  few : Few (record_of c) (most_bytes c.edition)
  unfolding record_of most_bytes
  few =
      few_up_to c.edition most_edition F.edition_most
      then few_up_to c.n most_threads F.n_most
      then few_up_to c.m most_addresses F.m_most
      then few-each encode _ c.initials (all_map _ _ (λ v h. few_up_to v most_value h) c.initials F.initials) most_addresses (omega (arith, F.m, F.m_most))
      then few_up_to c.k most_events F.k_most
      then few-each event_bytes _ c.events (all_map _ _ (λ e h. few-event c.edition c.n c.m e F.n_most F.m_most h) c.events F.events) most_events (omega (arith, F.k, F.k_most))
      then both (dependencies_bytes c.edition c.dependencies) (each (each encode) c.writes) (few-linked c F)
      (few-each (order_bytes c.k) _ c.orders (all_map _ _ (λ rows h. few-order c.k rows F.k_most h.0) c.orders F.orders) most_threads (omega (arith, F.n, F.n_most))
      then few_up_to (length c.name) most_name F.name
      then name-few)
    where
      both : (as' bs : List ℕ) {cs : List ℕ} {x y : ℕ} → Few (as' ++ bs) x → Few cs y → Few (as' ++ (bs ++ cs)) (x + y)
      both as' bs {cs} p q = rw (← append_assoc as' bs cs) (p then q)

      name-few : Few c.name most_name
      name-few = record { most = F.name; bytes = printable-bytes c.name F.name_printable }

  pub most-bytes : length (record_of c) ≤ most_bytes c.edition
  most-bytes = few.most

  pub record_bytes : Bytes (record_of c)
  record_bytes = few.bytes

-- ---- the most bytes as a numeral

-- 01: "record bytes"; 02 (xii): "An edition 1 record may be 33,409 bytes", (viii): "edition 2 has 288 more"
pub most_is : (most_bytes 1 ≡ 33409) × (most_bytes 2 ≡ 33409 + 288)
unfolding most_bytes most_link_bytes most_event_bytes most_order_bytes most_dependency_bytes most_kind encode_by encode
most_is = (refl, refl)

-- but for the second, every edition's is the first's
pub most_first : (edition : ℕ) → second edition ≡ false → most_bytes edition ≡ most_bytes 1
unfolding most_bytes most_link_bytes
most_first edition e = rw e
