-- A struct that means a case without fault has its numbers within their ranges.
-- Assumes nothing.
use Prim.Native.Nat.{ℕ, ◌+◌, ◌*◌, ◌≤◌, ◌<◌}
use native.Mathlib.Nat.{zero-add}
use mathlib.Core.Path.{◌≡◌, refl, sym, ap, ◌∙◌}
use mathlib.Core.Bool.{Bool, true, false, ◌&&◌, ◌||◌, false≢true}
use mathlib.Core.List.{List, []}
use lib.Dec.{leb, ltb}
use lib.ListN.{length, get_or}
use borrow.Author.Tests.{ltb-true, leb-true}
use Rattle.finite.specs.Tests.{count}
use Rattle.finite.specs.Lists.{table, every}
use Rattle.finite.proofs.Tests.{and_l, and_r}
use Rattle.finite.proofs.Lists.{table_get, table-length}
use Rattle.model.specs.Limits.{between, least_edition, most_edition, most_threads, most_addresses, most_events, most_dependencies, most_value, most_name}
use Rattle.model.specs.Case.{Dependency, most_kind, bare, most_class}
use Rattle.model.specs.Record.{dependency_good, store_to}
use Rattle.model.specs.Fault.{event_good, dependency_within, dependency_fault, write_fault, writes_fault, name_fault, fault}
use Rattle.case.specs.declared.Case.{Case as Held}
use Rattle.case.specs.Held.{event_of, events_of, link, link_count, links_of, case_of}
use Rattle.case.specs.Sound.{Sound}
use Rattle.case.proofs.Faults.{else_none, first-none, every_at, event-good, links_none, write-none, writes-none}

and_three : (x y z : Bool) → (x && y && z) ≡ true → (x ≡ true) × (y ≡ true) × (z ≡ true)
and_three true true z h = (refl, refl, h)
and_three true false z h = absurd (false≢true h)
and_three false y z h = absurd (false≢true h)

-- what each test of a case without fault found
record Faultless (c : Held) : Type 0 where
  edition : between least_edition most_edition c.edition ≡ true
  threads : between 1 most_threads c.threads ≡ true
  addresses : between 1 most_addresses c.addresses ≡ true
  initials : every (λ v. leb v most_value) (case_of c).initials ≡ true
  events : leb c.events most_events ≡ true
  listing : every (event_good c.edition c.threads c.addresses) (case_of c).events ≡ true
  few : leb (length (case_of c).dependencies) most_dependencies ≡ true
  links : dependency_fault c.events (dependency_good (case_of c).events) 0 (case_of c).dependencies ≡ 0
  writes : writes_fault c.events (store_to (case_of c).events) 0 (case_of c).writes ≡ 0
  name : leb (length (case_of c).name) most_name ≡ true

faultless : (c : Held) → fault (case_of c) ≡ 0 → Faultless c
unfolding fault name_fault case_of
faultless c h =
    let h₁ = else_none (between least_edition most_edition c.edition) 2 _ h in
    let h₂ = else_none (between 1 most_threads c.threads) 2 _ h₁.1 in
    let h₃ = else_none (between 1 most_addresses c.addresses) 2 _ h₂.1 in
    let h₄ = else_none (every (λ v. leb v most_value) (case_of c).initials) 2 _ h₃.1 in
    let h₅ = else_none (leb c.events most_events) 2 _ h₄.1 in
    let h₆ = else_none (every (event_good c.edition c.threads c.addresses) (case_of c).events) 2 _ h₅.1 in
    let h₉ = else_none (leb (length (case_of c).dependencies) most_dependencies) 2 _ h₆.1 in
    let h₀ = first-none (dependency_fault c.events (dependency_good (case_of c).events) 0 (case_of c).dependencies) _ h₉.1 in
    let h₇ = first-none (writes_fault c.events (store_to (case_of c).events) 0 (case_of c).writes) _ h₀.1 in
    let h₈ = else_none (leb (length (case_of c).name) most_name) 2 _ h₇.1 in
    record { edition = h₁.0; threads = h₂.0; addresses = h₃.0; initials = h₄.0; events = h₅.0; listing = h₆.0; few = h₉.0; links = h₀.0; writes = h₇.0; name = h₈.0 }

module _ (c : Held) (F : Faultless c) where
  abbrev ranged : ℕ → Bool
  ranged e = ltb (get_or c.address e 0) c.addresses && leb (get_or c.value e 0) most_value

  event-at : (e : ℕ) → e < c.events
      → (leb (get_or c.kind e 0) (most_kind c.edition) && ltb (get_or c.thread e 0) c.threads && (bare (get_or c.kind e 0) || ranged e)) ≡ true
  unfolding case_of events_of
  event-at e l =
      sym (event-good c.edition c.threads c.addresses _ _ _ _)
      ∙ ap (λ (y : ℕ). event_good c.edition c.threads c.addresses (event_of (get_or c.kind y 0) (get_or c.thread y 0) (get_or c.address y 0) (get_or c.value y 0))) (sym (zero-add e))
      ∙ every_at (event_good c.edition c.threads c.addresses) 0 c.events _ F.listing e l

  parts : (e : ℕ) → e < c.events
      → (leb (get_or c.kind e 0) (most_kind c.edition) ≡ true) × (ltb (get_or c.thread e 0) c.threads ≡ true) × ((bare (get_or c.kind e 0) || ranged e) ≡ true)
  parts e l = and_three _ _ _ (event-at e l)

  unbare : (e : ℕ) → e < c.events → bare (get_or c.kind e 0) ≡ false → ranged e ≡ true
  unbare e l b = rw b at (parts e l).2

  abbrev links : ℕ
  links = link_count c.edition c.dependencies

  abbrev link_at : ℕ → Dependency
  link_at i = link (get_or c.class i 0) (get_or c.from i 0) (get_or c.to i 0)

  links_few : links ≤ most_dependencies
  unfolding case_of links_of
  links_few = leb-true _ _ (ap (λ (i : ℕ). leb i most_dependencies) (sym (table-length 0 links link_at)) ∙ F.few)

  link-within : (i : ℕ) → i < links → dependency_within c.events (link_at i) ≡ true
  unfolding case_of links_of
  link-within i l =
      ap (dependency_within c.events) (sym (table_get links link_at i (link 0 0 0) l))
      ∙ links_none c.events _ 0 (case_of c).dependencies F.links (link 0 0 0) i (rw (table-length 0 links link_at) l)

  abbrev stores : ℕ → ℕ
  stores x = count c.events (store_to (case_of c).events x)

  abbrev listed : ℕ → List ℕ
  listed x = table 0 (stores x) (λ i. get_or c.writes (x * most_events + i) 0)

  listed_good : (x : ℕ) → x < c.addresses → write_fault c.events (store_to (case_of c).events (0 + x)) [] (listed x) ≡ 0
  unfolding case_of
  listed_good x l =
      ap (write_fault c.events (store_to (case_of c).events (0 + x)) []) (sym (table_get c.addresses listed x [] l))
      ∙ writes-none _ _ 0 (case_of c).writes F.writes x (rw (table-length 0 c.addresses listed) l)

  stored : (x : ℕ) → x < c.addresses → (i : ℕ) → i < stores x → get_or c.writes (x * most_events + i) 0 < c.events
  stored x l i b =
      rw (table_get (stores x) (λ i. get_or c.writes (x * most_events + i) 0) i 0 b) at
      (write-none _ _ [] (listed x) (listed_good x l) i (rw (table-length 0 (stores x) (λ i. get_or c.writes (x * most_events + i) 0)) b))

  name-short : c.namelength ≤ most_name
  unfolding case_of
  name-short = leb-true _ _ (ap (λ (i : ℕ). leb i most_name) (sym (table-length 0 c.namelength (λ i. get_or c.name i 0))) ∙ F.name)

  bounds : Sound c
  unfolding case_of
  bounds = record {
    edition_most = leb-true _ _ (and_r (leb least_edition c.edition) _ F.edition);
    threads_least = leb-true _ _ (and_l _ _ F.threads);
    threads_most = leb-true _ _ (and_r (leb 1 c.threads) _ F.threads);
    addresses_least = leb-true _ _ (and_l _ _ F.addresses);
    addresses_most = leb-true _ _ (and_r (leb 1 c.addresses) _ F.addresses);
    events_most = leb-true _ _ F.events;
    initial = λ x l. leb-true _ _ (rw (zero-add x) at (every_at (λ v. leb v most_value) 0 c.addresses _ F.initials x l));
    kind = λ e l. leb-true _ _ (parts e l).0;
    thread = λ e l. ltb-true _ _ (parts e l).1;
    address = λ e l b. ltb-true _ _ (and_l _ _ (unbare e l b));
    value = λ e l b. leb-true _ _ (and_r (ltb (get_or c.address e 0) c.addresses) _ (unbare e l b));
    links_most = links_few;
    from = λ i l. ltb-true _ _ (and_three (leb (get_or c.class i 0) most_class) _ _ (link-within i l)).1;
    to = λ i l. ltb-true _ _ (and_three (leb (get_or c.class i 0) most_class) _ _ (link-within i l)).2;
    written = stored;
    name_most = name-short;
  }

pub sound : (c : Held) → fault (case_of c) ≡ 0 → Sound c
sound c h = bounds c (faultless c h)
