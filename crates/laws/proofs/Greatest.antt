-- The most bytes are reached: a record of each edition takes them.
-- Assumes nothing.
use Prim.Native.Nat.{ℕ, suc, ◌+◌, ◌-◌, ◌/◌, ◌%◌, ◌^◌, ◌<◌}
use mathlib.Core.Path.{◌≡◌, refl, sym, ap, ◌∙◌}
use mathlib.Core.Bool.{Bool, true, false, cond, true≢false}
use mathlib.Core.List.{List, [], ◌∷◌, ◌++◌}
use lib.Dec.{ltb, lit<}
use lib.ListN.{length}
use Rattle.finite.specs.Tests.{count}
use Rattle.finite.specs.Lists.{table, each, every, All, AllFrom}
use Rattle.finite.proofs.Lists.{table-length}
use Rattle.finite.proofs.All.{all-table}
use Rattle.number.specs.Number.{encode_by, encode}
use Rattle.number.specs.Reader.{next}
use Rattle.bits.specs.Bit.{bit}
use Rattle.model.specs.Limits.{second, most_threads, most_addresses, most_events, most_dependencies, most_value, most_name, least_printable}
use Rattle.model.specs.Case.{Case, Event, Dependency, load, store, bare, most_kind, most_class, printable}
use Rattle.model.specs.Record.{dependency_good, member, store_to, read}
use Rattle.model.specs.Written.{event_bytes, dependency_bytes, dependencies_bytes, pair_bytes, row_pairs, rows_pairs, order_bytes, record_of}
use Rattle.model.specs.Fault.{event_good, dependency_fault, write_fault, writes_fault, name_fault, fault}
use Rattle.model.specs.Bound.{most_event_bytes, most_order_bytes, most_dependency_bytes, least_loads, most_link_bytes, most_bytes}
use Rattle.model.specs.Fits.{Shaped}
use Rattle.laws.proofs.ReadBack.{round_trip}

-- in edition 2, as many loads as begin all dependencies
abbrev loads : (edition : ℕ) → ℕ
loads edition = cond (second edition) least_loads 0

-- dependency i: the first load's by each class to each event behind the loads
abbrev link : (i : ℕ) → Dependency
link i = record { class = i % (most_class + 1); from = 0; to = least_loads + i / (most_class + 1) }

-- the loads first, and stores behind them
abbrev access : (edition e : ℕ) → Event
access edition e = record { kind = cond (ltb e (loads edition)) load store; thread = 0; address = 0; value = most_value }

-- each row of an order: every pair is there
abbrev full : ℕ
full = 2 ^ most_events - 1

-- as much of everything as there may be
unfoldable pub greatest : (edition : ℕ) → Case
greatest edition = record {
  edition = edition;
  n = most_threads;
  m = most_addresses;
  k = most_events;
  initials = table 0 most_addresses (λ _. most_value);
  events = table 0 most_events (access edition);
  dependencies = cond (second edition) (table 0 most_dependencies link) [];
  writes = table (loads edition) (most_events - loads edition) (λ e. e) ∷ table 1 (most_addresses - 1) (λ _. []);
  orders = table 0 most_threads (λ _. table 0 most_events (λ _. full));
  name = table 0 most_name (λ _. least_printable);
}

no_bare : (x : Bool) → bare (cond x load store) ≡ true → most_value ≡ 0
no_bare true p = absurd (true≢false (sym p))
no_bare false p = absurd (true≢false (sym p))

-- each address's write order is as long as there are stores to it
abbrev Listed : (edition : ℕ) → Type 0
Listed edition = AllFrom (λ x w. length w ≡ count most_events (store_to (greatest edition).events x)) 0 (greatest edition).writes

shape : (edition : ℕ) → Listed edition → Shaped (greatest edition)
unfolding greatest
shape edition l = record {
  m = sym (table-length 0 most_addresses _);
  k = sym (table-length 0 most_events _);
  no_address = all-table (λ e. bare e.kind ≡ true → e.address ≡ 0) 0 most_events (access edition) (λ e h b. refl);
  no_value = all-table (λ e. bare e.kind ≡ true → e.value ≡ 0) 0 most_events (access edition) (λ e h. no_bare (ltb e (loads edition)));
  no_dependencies = λ p. rw p;
  m' = ap suc (sym (table-length 1 (most_addresses - 1) _));
  writes = l;
  n = sym (table-length 0 most_threads _);
  orders =
      all-table (λ rows. (length rows ≡ most_events) × All (λ r. r < 2 ^ most_events) rows) 0 most_threads (λ _. table 0 most_events (λ _. full))
      (λ p h. (table-length 0 most_events _, all-table (λ r. r < 2 ^ most_events) 0 most_events (λ _. full) (λ a h. lit< tt)));
}

-- ---- computed for each edition

listed : Listed 1 × Listed 2
unfolding greatest count table store_to
listed = ((refl, (refl, (refl, (refl, tt)))), (refl, (refl, (refl, (refl, tt)))))

no-fault : (fault (greatest 1) ≡ 0) × (fault (greatest 2) ≡ 0)
unfolding greatest table every most_kind printable dependency_good member store_to event_good dependency_fault write_fault writes_fault name_fault fault
no-fault = (refl, refl)

long : (length (record_of (greatest 1)) ≡ most_bytes 1) × (length (record_of (greatest 2)) ≡ most_bytes 2)
unfolding greatest table each encode_by encode bit most_kind event_bytes dependency_bytes dependencies_bytes pair_bytes row_pairs rows_pairs order_bytes record_of
    most_event_bytes most_order_bytes most_dependency_bytes most_link_bytes most_bytes
long = (refl, refl)

reached : (edition : ℕ) → Listed edition → fault (greatest edition) ≡ 0 → length (record_of (greatest edition)) ≡ most_bytes edition
    → (t : List ℕ) → read (record_of (greatest edition) ++ t) ≡ next (greatest edition) (most_bytes edition)
reached edition l f i t = round_trip (greatest edition) (shape edition l) f t ∙ ap (next (greatest edition)) i

-- 02 (xii): "An edition 1 record may be 33,409 bytes": it is read, whatever lies behind it; and one of edition 2
pub most_reached :
    (t : List ℕ)
    → (read (record_of (greatest 1) ++ t) ≡ next (greatest 1) (most_bytes 1)) × (read (record_of (greatest 2) ++ t) ≡ next (greatest 2) (most_bytes 2))
most_reached t = (reached 1 listed.0 no-fault.0 long.0 t, reached 2 listed.1 no-fault.1 long.1 t)
