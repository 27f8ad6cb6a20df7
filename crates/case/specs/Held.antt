-- The case that a struct means, and the struct that holds a case.
-- Assumes nothing.
use Rattle.std.specs.Prelude.{ℕ, ◌+◌, ◌-◌, ◌*◌, ◌%◌, ◌^◌, ◌≤◌, ◌<◌, Bool, cond, List, [], ◌∷◌, ◌++◌, map, leb, length, get_or, replicate}
use Rattle.finite.specs.Tests.{count}
use Rattle.finite.specs.Lists.{table}
use Rattle.model.specs.Limits.{second, most_threads, most_addresses, most_events, most_dependencies, most_name}
use Rattle.model.specs.Case.{Case, Event, Dependency, bare, most_class}
use Rattle.model.specs.Rules.{or_else}
use Rattle.model.specs.Record.{dependency_good, store_to}
use Rattle.model.specs.Fault.{dependency_fault}
use Rattle.case.specs.declared.Case.{Case as Held}
use Rattle.case.specs.declared.Link.{Link}

-- a bare kind's address and value are not looked at (01: "a sync's address and value .. the writer ignores what stands there")
unfoldable pub event_of : (kind thread address value : ℕ) → Event
event_of k t a v = cond (bare k) (record { kind = k; thread = t; address = 0; value = 0 }) (record { kind = k; thread = t; address = a; value = v })

-- event e of a struct
abbrev pub event_at : Held → ℕ → Event
event_at c e = event_of (get_or c.kind e 0) (get_or c.thread e 0) (get_or c.address e 0) (get_or c.value e 0)

-- by the arrays of kinds, threads, addresses and values
unfoldable pub events_of : (k : ℕ) (kinds threads addresses values : List ℕ) → List Event
events_of k ks ts as' vs = table 0 k (λ e. event_of (get_or ks e 0) (get_or ts e 0) (get_or as' e 0) (get_or vs e 0))

-- how many dependencies there are: 02 (vi): "in edition 1 the dependencies are room beyond the counts"
unfoldable pub link_count : (edition dependencies : ℕ) → ℕ
link_count edition i = cond (second edition) i 0

-- a dependency by its three numbers; link is short for a dependency in the names of code and proofs
abbrev pub link : (class from to : ℕ) → Dependency
link x a b = record { class = x; from = a; to = b }

abbrev pub link_of : Link → Dependency
link_of l = link l.class l.from l.to

-- its class is one, and its events are among k
pub record Among (k : ℕ) (l : Link) : Type 0 where
  pub class : l.class ≤ most_class
  pub from : l.from < k
  pub to : l.to < k

-- i dependencies, by the arrays of classes and of the events that they go from and to
unfoldable pub links_of : (i : ℕ) (classes froms tos : List ℕ) → List Dependency
links_of i xs as' bs = table 0 i (λ j. link (get_or xs j 0) (get_or as' j 0) (get_or bs j 0))

-- whether a dependency among k events is good, by the arrays of their kinds and threads
unfoldable pub good_at : (k : ℕ) (kinds threads : List ℕ) → Dependency → Bool
good_at k ks ts = dependency_good (events_of k ks ts [] [])

-- the fault of a struct's dependencies: more than there may be, or the first that may not stand where it does
unfoldable pub links_fault : Held → ℕ
links_fault c =
    or_else (leb (link_count c.edition c.dependencies) most_dependencies) 3
    (dependency_fault c.events (good_at c.events c.kind c.thread) 0
    (links_of (link_count c.edition c.dependencies) c.class c.from c.to))

-- what the struct means: all room beyond the counts is left out (01: "cases that differ only there are the same case")
unfoldable pub case_of : Held → Case
case_of c = record {
  edition = c.edition;
  n = c.threads;
  m = c.addresses;
  k = c.events;
  initials = table 0 c.addresses (λ x. get_or c.initial x 0);
  events = events_of c.events c.kind c.thread c.address c.value;
  dependencies = links_of (link_count c.edition c.dependencies) c.class c.from c.to;
  writes =
      table 0 c.addresses (λ x.
      table 0 (count c.events (store_to (events_of c.events c.kind c.thread c.address c.value) x)) (λ i. get_or c.writes (x * most_events + i) 0));
  orders = table 0 c.threads (λ p. table 0 c.events (λ a. get_or c.rows (p * most_events + a) 0 % 2 ^ c.events));
  name = table 0 c.namelength (λ i. get_or c.name i 0);
}

-- the list, and zeros up to n places
unfoldable pub pad : ℕ → List ℕ → List ℕ
pad n xs = xs ++ replicate (n - length xs) 0

-- the lists one behind the other, each at n places
unfoldable pub rows_of : ℕ → List (List ℕ) → List ℕ
rows_of n [] = []
rows_of n (r ∷ rs) = pad n r ++ rows_of n rs

-- a case in a struct (01: "In a case read from bytes, all room beyond the counts, and a sync's address and value, hold zero")
unfoldable pub held : Case → Held
held c = record {
  edition = c.edition;
  threads = c.n;
  addresses = c.m;
  events = c.k;
  initial = pad most_addresses c.initials;
  kind = pad most_events (map (λ e. e.kind) c.events);
  thread = pad most_events (map (λ e. e.thread) c.events);
  address = pad most_events (map (λ e. e.address) c.events);
  value = pad most_events (map (λ e. e.value) c.events);
  dependencies = length c.dependencies;
  class = pad most_dependencies (map (λ d. d.class) c.dependencies);
  from = pad most_dependencies (map (λ d. d.from) c.dependencies);
  to = pad most_dependencies (map (λ d. d.to) c.dependencies);
  writes = pad (most_addresses * most_events) (rows_of most_events c.writes);
  rows = pad (most_threads * most_events) (rows_of most_events c.orders);
  name = pad most_name c.name;
  namelength = length c.name;
}

-- what stands beside a refusal
unfoldable pub empty_case : Held
empty_case = record {
  edition = 0;
  threads = 0;
  addresses = 0;
  events = 0;
  initial = replicate most_addresses 0;
  kind = replicate most_events 0;
  thread = replicate most_events 0;
  address = replicate most_events 0;
  value = replicate most_events 0;
  dependencies = 0;
  class = replicate most_dependencies 0;
  from = replicate most_dependencies 0;
  to = replicate most_dependencies 0;
  writes = replicate (most_addresses * most_events) 0;
  rows = replicate (most_threads * most_events) 0;
  name = replicate most_name 0;
  namelength = 0;
}
