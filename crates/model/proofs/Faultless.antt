-- Cases handed without bytes: those without fault are those that fit.
-- Assumes nothing.
use Prim.Native.Nat.{ℕ, zero, suc, ◌+◌, ◌≤◌}
use native.Mathlib.Omega.{arith}
use mathlib.Core.Path.{◌≡◌, refl, sym, subst}
use mathlib.Core.Bool.{Bool, true, false, not, ◌&&◌, ◌||◌, true≢false}
use mathlib.Core.List.{List, [], ◌∷◌, ◌++◌, map}
use lib.Dec.{leb, ltb}
use lib.ListN.{length}
use borrow.Author.Tests.{le-leb, leb-true, lt-ltb, ltb-true}
use Rattle.finite.specs.Tests.{count}
use Rattle.finite.specs.Lists.{every, AllFrom}
use Rattle.finite.proofs.Tests.{and_l, and_r, and_i}
use Rattle.finite.proofs.All.{all_map, all_three, every_make, every_get, from_map}
use Rattle.number.specs.Reader.{next}
use Rattle.model.specs.Limits.{between, least_edition, most_edition, most_threads, most_addresses, most_events, most_dependencies, most_value, most_name}
use Rattle.model.specs.Case.{Case, Event, Dependency, most_kind, bare, most_class, printable}
use Rattle.model.specs.Rules.{last_of, or_else}
use Rattle.model.specs.Record.{dependency_good, dependency_rank, least_after, member, store_to}
use Rattle.model.specs.Written.{record_of}
use Rattle.model.specs.Fault.{event_good, first_fault, dependency_within, dependency_fault, write_fault, writes_fault, name_fault, fault}
use Rattle.model.specs.Answers.{handed}
use Rattle.model.specs.Fits.{EventFits, DependencyFits, DependenciesFit, WriteFits, Fits, Shaped}
use Rattle.model.proofs.WriteOrders.{WritesFrom, writes_from, from_writes}

-- ---- tests and faults

-- a test that is passed
pub record Passed (t : Bool) (rest : ℕ) : Type 0 where
  pub here : t ≡ true
  pub there : rest ≡ 0

pub passed : (t : Bool) (x rest : ℕ) → or_else t (suc x) rest ≡ 0 → Passed t rest
passed true x rest e = record { here = refl; there = e }
passed false x rest e = absurd (omega arith)

pass : (t : Bool) (x rest : ℕ) → t ≡ true → rest ≡ 0 → or_else t x rest ≡ 0
pass true x rest e h = h
pass false x rest e h = absurd (true≢false (sym e))

pub record Neither (x y : ℕ) : Type 0 where
  pub here : x ≡ 0
  pub there : y ≡ 0

pub neither : (x y : ℕ) → first_fault x y ≡ 0 → Neither x y
neither zero y e = record { here = refl; there = e }
neither (suc x) y e = absurd (omega arith)

none : (x y : ℕ) → x ≡ 0 → y ≡ 0 → first_fault x y ≡ 0
none zero y e h = h
none (suc x) y e h = absurd (omega arith)

pub else_first : (t : Bool) (x y : ℕ) → or_else t 3 (first_fault x y) ≡ first_fault (or_else t 3 x) y
else_first true x y = refl
else_first false x y = refl

pub first-first : (x y z : ℕ) → first_fault x (first_fault y z) ≡ first_fault (first_fault x y) z
first-first zero y z = refl
first-first (suc x) y z = refl

module _ (lo hi v : ℕ) where
  between_make : lo ≤ v → v ≤ hi → between lo hi v ≡ true
  between_make l h = and_i (leb lo v) (leb v hi) (le-leb lo v l) (le-leb v hi h)

  pub between-least : between lo hi v ≡ true → lo ≤ v
  between-least e = leb-true lo v (and_l (leb lo v) (leb v hi) e)

  pub between_most : between lo hi v ≡ true → v ≤ hi
  between_most e = leb-true v hi (and_r (leb lo v) (leb v hi) e)

-- ---- an event

module _ (edition n m : ℕ) (e : Event) where
  event-good : EventFits edition n m e → event_good edition n m e ≡ true
  unfolding event_good
  event-good f =
      and_i (leb e.kind (most_kind edition) && ltb e.thread n) _
      (and_i (leb e.kind (most_kind edition)) (ltb e.thread n) (le-leb _ _ f.kind) (lt-ltb _ _ f.thread)) (go (bare e.kind) refl)
    where
      go : (x : Bool) → bare e.kind ≡ x → (x || (ltb e.address m && leb e.value most_value)) ≡ true
      go true p = refl
      go false p = and_i (ltb e.address m) _ (lt-ltb _ _ (f.address p)) (le-leb _ _ (f.value p))

  event-fits : (bare e.kind ≡ true → e.address ≡ 0) → (bare e.kind ≡ true → e.value ≡ 0) → event_good edition n m e ≡ true → EventFits edition n m e
  unfolding event_good
  event-fits a v t =
      let front = and_l (leb e.kind (most_kind edition) && ltb e.thread n) (bare e.kind || (ltb e.address m && leb e.value most_value)) t in
      let back = and_r (leb e.kind (most_kind edition) && ltb e.thread n) (bare e.kind || (ltb e.address m && leb e.value most_value)) t in
      record {
        kind = leb-true _ _ (and_l (leb e.kind (most_kind edition)) (ltb e.thread n) front);
        thread = ltb-true _ _ (and_r (leb e.kind (most_kind edition)) (ltb e.thread n) front);
        address = λ p. ltb-true _ _ (and_l (ltb e.address m) (leb e.value most_value) (full p back));
        value = λ p. leb-true _ _ (and_r (ltb e.address m) (leb e.value most_value) (full p back));
        no_address = a;
        no_value = v;
      }
    where
      full : {x y : Bool} → x ≡ false → (x || y) ≡ true → y ≡ true
      full {x = false} p q = q
      full {x = true} p q = absurd (true≢false p)

-- ---- dependencies

module _ (k : ℕ) (d : Dependency) where
  within_make : DependencyFits k d → dependency_within k d ≡ true
  within_make f =
      and_i (leb d.class most_class && ltb d.from k) (ltb d.to k)
      (and_i (leb d.class most_class) (ltb d.from k) (le-leb _ _ f.class) (lt-ltb _ _ f.from)) (lt-ltb _ _ f.to)

  within-fits : dependency_within k d ≡ true → DependencyFits k d
  within-fits t =
      let front = and_l (leb d.class most_class && ltb d.from k) (ltb d.to k) t in
      record {
        class = leb-true _ _ (and_l (leb d.class most_class) (ltb d.from k) front);
        from = ltb-true _ _ (and_r (leb d.class most_class) (ltb d.from k) front);
        to = ltb-true _ _ (and_r (leb d.class most_class && ltb d.from k) (ltb d.to k) t);
      }

-- the first may have any rank
pub least_first : (k : ℕ) → least_after k [] ≡ 0
unfolding least_after last_of
least_first k = refl

-- behind one of them, the least rank is one above its own
pub least-next : (k : ℕ) (before : List Dependency) (d : Dependency) → least_after k (before ++ (d ∷ [])) ≡ dependency_rank k d + 1
unfolding least_after last_of
least-next k before d = go 0 before
  where
    go : (x : ℕ) (before : List Dependency) → last_of x (map (λ d. dependency_rank k d + 1) (before ++ (d ∷ []))) ≡ dependency_rank k d + 1
    go x [] = refl
    go x (b ∷ before) = go (dependency_rank k b + 1) before

module _ (k : ℕ) (good : Dependency → Bool) where
  links_faultless : (before ds : List Dependency) → DependenciesFit k good before ds → dependency_fault k good (least_after k before) ds ≡ 0
  unfolding dependency_fault
  links_faultless before [] h = refl
  links_faultless before (d ∷ ds) h =
      pass _ 3 _ (within_make k d h.0) (pass _ 4 _ h.1
      (subst (λ (x : ℕ). dependency_fault k good x ds ≡ 0) (least-next k before d) (links_faultless (before ++ (d ∷ [])) ds h.2)))

  links_fit : (before ds : List Dependency) → dependency_fault k good (least_after k before) ds ≡ 0 → DependenciesFit k good before ds
  unfolding dependency_fault
  links_fit before [] h = tt
  links_fit before (d ∷ ds) h =
      let a = passed (dependency_within k d) 2 _ h in
      let b = passed (leb (least_after k before) (dependency_rank k d) && good d) 3 _ a.there in (
        within-fits k d a.here,
        b.here,
        links_fit (before ++ (d ∷ [])) ds (subst (λ (x : ℕ). dependency_fault k good x ds ≡ 0) (sym (least-next k before d)) b.there),
      )

-- ---- write orders

module _ (k : ℕ) (mine : ℕ → Bool) where
  write-faultless : (before w : List ℕ) → WriteFits k mine before w → write_fault k mine before w ≡ 0
  unfolding write_fault
  write-faultless before [] h = refl
  write-faultless before (e ∷ w) h = pass _ 3 _ (lt-ltb e k h.0) (pass _ 4 _ h.1 (write-faultless (before ++ (e ∷ [])) w h.2))

  write-fits : (before w : List ℕ) → write_fault k mine before w ≡ 0 → WriteFits k mine before w
  unfolding write_fault
  write-fits before [] h = tt
  write-fits before (e ∷ w) h =
      let a = passed (ltb e k) 2 _ h in
      let b = passed (mine e && not (member e before)) 3 _ a.there in
      (ltb-true e k a.here, b.here, write-fits (before ++ (e ∷ [])) w b.there)

module _ (k : ℕ) (mine : ℕ → ℕ → Bool) where
  writes-faultless : (x : ℕ) (ws : List (List ℕ)) → WritesFrom k mine x ws → writes_fault k mine x ws ≡ 0
  unfolding writes_fault
  writes-faultless x [] h = refl
  writes-faultless x (w ∷ ws) h = none _ _ (write-faultless k (mine x) [] w h.0.1) (writes-faultless (suc x) ws h.1)

  writes_fit : (x : ℕ) (ws : List (List ℕ)) → AllFrom (λ x w. length w ≡ count k (mine x)) x ws
      → writes_fault k mine x ws ≡ 0 → WritesFrom k mine x ws
  unfolding writes_fault
  writes_fit x [] l h = tt
  writes_fit x (w ∷ ws) l h =
      let a = neither (write_fault k (mine x) [] w) _ h in
      ((l.0, write-fits k (mine x) [] w a.here), writes_fit (suc x) ws l.1 a.there)

-- ---- cases

pub faultless : (c : Case) → Fits c → fault c ≡ 0
unfolding fault name_fault
faultless c F =
    pass _ 3 _ (between_make least_edition most_edition c.edition F.edition_least F.edition_most)
    (pass _ 3 _ (between_make 1 most_threads c.n F.n_least F.n_most)
    (pass _ 3 _ (between_make 1 most_addresses c.m F.m_least F.m_most)
    (pass _ 3 _ (every_make _ _ (λ v h. le-leb v most_value h) c.initials F.initials)
    (pass _ 3 _ (le-leb c.k most_events F.k_most)
    (pass _ 3 _ (every_make _ _ (event-good c.edition c.n c.m) c.events F.events)
    (pass _ 3 _ (le-leb (length c.dependencies) most_dependencies F.dependencies_most)
    (none _ _ (rw (least_first c.k) at (links_faultless c.k (dependency_good c.events) [] c.dependencies F.dependencies))
    (none _ _ (writes-faultless c.k (store_to c.events) 0 c.writes (writes_from c.k (store_to c.events) [] c.writes F.writes))
    (pass _ 3 _ (le-leb (length c.name) most_name F.name) (pass _ 23 0 F.name_printable refl))))))))))

pub fits_of : (c : Case) → Shaped c → fault c ≡ 0 → Fits c
unfolding fault name_fault
fits_of c S e =
    let edition = passed (between least_edition most_edition c.edition) 2 _ e in
    let threads = passed (between 1 most_threads c.n) 2 _ edition.there in
    let addresses = passed (between 1 most_addresses c.m) 2 _ threads.there in
    let initials = passed (every (λ v. leb v most_value) c.initials) 2 _ addresses.there in
    let events = passed (leb c.k most_events) 2 _ initials.there in
    let listed = passed (every (event_good c.edition c.n c.m) c.events) 2 _ events.there in
    let few = passed (leb (length c.dependencies) most_dependencies) 2 _ listed.there in
    let links = neither (dependency_fault c.k (dependency_good c.events) 0 c.dependencies) _ few.there in
    let writes = neither (writes_fault c.k (store_to c.events) 0 c.writes) _ links.there in
    let name = passed (leb (length c.name) most_name) 2 _ writes.there in
    let print = passed (every printable c.name) 22 0 name.there in
    record {
      edition_least = between-least least_edition most_edition c.edition edition.here;
      edition_most = between_most least_edition most_edition c.edition edition.here;
      n_least = between-least 1 most_threads c.n threads.here;
      n_most = between_most 1 most_threads c.n threads.here;
      m_least = between-least 1 most_addresses c.m addresses.here;
      m_most = between_most 1 most_addresses c.m addresses.here;
      k_most = leb-true c.k most_events events.here;
      m = S.m;
      initials = all_map _ _ (λ v h. leb-true v most_value h) c.initials (every_get (λ v. leb v most_value) c.initials initials.here);
      k = S.k;
      events = all_three _ _ _ _ (event-fits c.edition c.n c.m) c.events S.no_address S.no_value (every_get (event_good c.edition c.n c.m) c.events listed.here);
      no_dependencies = S.no_dependencies;
      dependencies_most = leb-true (length c.dependencies) most_dependencies few.here;
      dependencies = links_fit c.k (dependency_good c.events) [] c.dependencies (rw (least_first c.k) links.here);
      m' = S.m';
      writes = from_writes c.k (store_to c.events) [] c.writes (writes_fit c.k (store_to c.events) 0 c.writes S.writes writes.here);
      n = S.n;
      orders = S.orders;
      name = leb-true (length c.name) most_name name.here;
      name_printable = print.here;
    }

-- a case that fits has the shape, so that the shape asks no more than fitting does
pub shaped : (c : Case) → Fits c → Shaped c
shaped c F = record {
  m = F.m;
  k = F.k;
  no_address = all_map _ _ (λ e h. h.no_address) c.events F.events;
  no_value = all_map _ _ (λ e h. h.no_value) c.events F.events;
  no_dependencies = F.no_dependencies;
  m' = F.m';
  writes = from_map _ _ (λ x w h. h.0) 0 c.writes (writes_from c.k (store_to c.events) [] c.writes F.writes);
  n = F.n;
  orders = F.orders;
}

-- such a case is handed on as it is, with its record's length
pub handed_on : (c : Case) → Fits c → handed c ≡ next c (length (record_of c))
unfolding handed
handed_on c F = rw (faultless c F)
