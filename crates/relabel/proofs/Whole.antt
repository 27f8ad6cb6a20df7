-- The renumbered case, field by field.
-- Assumes nothing.
use Prim.Native.Nat.{ℕ, zero, suc, ◌*◌}
use mathlib.Core.Path.{◌≡◌, refl, sym, ap, ◌∙◌}
use mathlib.Core.Bool.{true, cond}
use mathlib.Core.List.{List, [], ◌∷◌, map}
use native.Mathlib.Omega.{arith}
use lib.Dec.{T}
use lib.ListN.{length, get_or}
use Rattle.finite.specs.Lists.{table}
use Rattle.finite.proofs.Tests.{and_l, and_r, true-T}
use Rattle.finite.proofs.Lists.{table_get, table_same, table-length}
use Rattle.permutation.specs.Permutation.{image, inverse, fits}
use Rattle.permutation.proofs.Laws.{fits_image, fits-inverse}
use Rattle.model.specs.Limits.{most_threads, most_addresses, most_events, most_dependencies, most_name}
use Rattle.model.specs.Case.{Event, Dependency, bare}
use Rattle.model.specs.Renumber.{moved, relabel, renumber, fitting}
use Rattle.case.specs.declared.Case.{Case as Held}
use Rattle.case.specs.Held.{event_of, events_of, link, link_count, links_of, case_of, held, pad, rows_of}
use Rattle.case.specs.Stores.{writes_at}
use Rattle.case.proofs.Events.{event_by}
use Rattle.case.proofs.Means.{writes-of}
use Rattle.relabel.specs.Orders.{order}

pub map-table : {A B : Type 0} (g : A → B) (i j : ℕ) (f : ℕ → A) → map g (table i j f) ≡ table i j (λ x. g (f x))
unfolding table
map-table g i zero f = refl
map-table g i (suc j) f = ap (λ l. g (f i) ∷ l) (map-table g (suc i) j f)

-- what stands at each label, moved
pub moved-table : {A : Type 0} (q j : ℕ) (d : A) (f : ℕ → A) → T (fits q j) → moved q j d (table 0 j f) ≡ table 0 j (λ y. f (image (inverse q) y))
unfolding moved
moved-table q j d f t =
    table_same 0 j _ _ (λ y l h. table_get j f (image (inverse q) y) d (fits_image (inverse q) j (fits-inverse q j t) y (omega arith)))

module _ (q r : ℕ) (c : Held) (fit : fitting q r (case_of c) ≡ true) where
  fit_threads : T (fits q c.threads)
  unfolding fitting case_of
  fit_threads = true-T (and_l (fits q c.threads) (fits r c.addresses) fit)

  fit_addresses : T (fits r c.addresses)
  unfolding fitting case_of
  fit_addresses = true-T (and_r (fits q c.threads) (fits r c.addresses) fit)

  abbrev kind_at : ℕ → ℕ
  kind_at e = get_or c.kind e 0

  abbrev event : ℕ → Event
  event e = event_of (kind_at e) (get_or c.thread e 0) (get_or c.address e 0) (get_or c.value e 0)

  -- event e under its new labels
  abbrev event' : ℕ → Event
  event' e = record {
    kind = kind_at e;
    thread = image q (get_or c.thread e 0);
    address = cond (bare (kind_at e)) 0 (image r (get_or c.address e 0));
    value = cond (bare (kind_at e)) 0 (get_or c.value e 0);
  }

  event-moved : (e : ℕ) → relabel q r (event e) ≡ event' e
  unfolding relabel
  event-moved e = event_by (λ v. relabel q r v ≡ event' e) (kind_at e) _ _ _ (λ h. rw h) (λ h. rw h)

  -- a field of the events
  field : (get : Event → ℕ)
      → pad most_events (table 0 c.events (λ e. get (event' e))) ≡ pad most_events (map get (map (relabel q r) (table 0 c.events event)))
  field get =
      ap (pad most_events)
      (sym
      (ap (map get) (map-table (relabel q r) 0 c.events event)
      ∙ map-table get 0 c.events (λ e. relabel q r (event e))
      ∙ table_same 0 c.events _ _ (λ e l h. ap get (event-moved e))))

  abbrev count : ℕ
  count = link_count c.edition c.dependencies

  abbrev link_at : ℕ → Dependency
  link_at i = link (get_or c.class i 0) (get_or c.from i 0) (get_or c.to i 0)

  -- a field of the dependencies, which stay
  link_field : (get : Dependency → ℕ) (links : ℕ) (xs : List ℕ) → links ≡ count → xs ≡ pad most_dependencies (table 0 links (λ i. get (link_at i)))
      → xs ≡ pad most_dependencies (map get (links_of count c.class c.from c.to))
  unfolding links_of
  link_field get links xs e h =
      h ∙ ap (λ (j : ℕ). pad most_dependencies (table 0 j (λ i. get (link_at i)))) e ∙ ap (pad most_dependencies) (sym (map-table get 0 count link_at))

  links_long : length (links_of count c.class c.from c.to) ≡ count
  unfolding links_of
  links_long = table-length 0 count link_at

  pub renumbered : (initial kind thread address value : List ℕ) (i : ℕ) (class from to writes rows name : List ℕ)
      → initial ≡ pad most_addresses (table 0 c.addresses (λ y. get_or c.initial (image (inverse r) y) 0))
      → kind ≡ pad most_events (table 0 c.events (λ e. get_or c.kind e 0))
      → thread ≡ pad most_events (table 0 c.events (λ e. image q (get_or c.thread e 0)))
      → address ≡ pad most_events (table 0 c.events (λ e. cond (bare (get_or c.kind e 0)) 0 (image r (get_or c.address e 0))))
      → value ≡ pad most_events (table 0 c.events (λ e. cond (bare (get_or c.kind e 0)) 0 (get_or c.value e 0)))
      → i ≡ count
      → class ≡ pad most_dependencies (table 0 i (λ j. get_or c.class j 0))
      → from ≡ pad most_dependencies (table 0 i (λ j. get_or c.from j 0))
      → to ≡ pad most_dependencies (table 0 i (λ j. get_or c.to j 0))
      → writes
      ≡ pad (most_addresses * most_events)
      (rows_of most_events (table 0 c.addresses (λ y. writes_at c.kind c.address c.writes c.events (image (inverse r) y))))
      → rows ≡ pad (most_threads * most_events) (rows_of most_events (table 0 c.threads (λ p. order c.events c.rows (image (inverse q) p))))
      → name ≡ pad most_name (table 0 c.namelength (λ i. get_or c.name i 0))
      → ◌≡◌ {A = Held}
      (record {
        edition = c.edition;
        threads = c.threads;
        addresses = c.addresses;
        events = c.events;
        initial = initial;
        kind = kind;
        thread = thread;
        address = address;
        value = value;
        dependencies = i;
        class = class;
        from = from;
        to = to;
        writes = writes;
        rows = rows;
        name = name;
        namelength = c.namelength;
      })
      (held (renumber q r (case_of c)))
  unfolding held renumber case_of events_of event_of
  renumbered initial kind thread address value i class from to writes rows name hi hk ht ha hv hl hx hf hg hw ho hn j = record {
    edition = c.edition;
    threads = c.threads;
    addresses = c.addresses;
    events = c.events;
    initial = (hi ∙ ap (pad most_addresses) (sym (moved-table r c.addresses 0 (λ x. get_or c.initial x 0) fit_addresses))) j;
    kind = (hk ∙ field (λ e. e.kind)) j;
    thread = (ht ∙ field (λ e. e.thread)) j;
    address = (ha ∙ field (λ e. e.address)) j;
    value = (hv ∙ field (λ e. e.value)) j;
    dependencies = (hl ∙ sym links_long) j;
    class = link_field (λ d. d.class) i class hl hx j;
    from = link_field (λ d. d.from) i from hl hf j;
    to = link_field (λ d. d.to) i to hl hg j;
    writes =
        (hw
        ∙ ap (λ l. pad (most_addresses * most_events) (rows_of most_events l))
        (sym (ap (moved r c.addresses []) (writes-of c) ∙ moved-table r c.addresses [] _ fit_addresses))) j;
    rows =
        (ho
        ∙ ap (λ l. pad (most_threads * most_events) (rows_of most_events l))
        (sym (moved-table q c.threads [] (order c.events c.rows) fit_threads))) j;
    name = hn j;
    namelength = sym (table-length 0 c.namelength (λ i. get_or c.name i 0)) j;
  }
