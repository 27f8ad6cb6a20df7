-- The state that a struct means, and the struct that holds a state.
-- Assumes nothing.
use Rattle.std.specs.Prelude.{ℕ, zero, suc, ◌+◌, ◌-◌, ◌*◌, ◌^◌, ◌≡◌, Bool, cond, List, map, eqb, ltb, get_or, length, replicate}
use Rattle.finite.specs.Tests.{tick}
use Rattle.finite.specs.Lists.{table}
use Rattle.bits.specs.Bit.{bit}
use Rattle.model.specs.Limits.{most_threads, most_addresses}
use Rattle.storage_model.specs.Limits.{most_writes, most_barriers, most_listed}
use Rattle.storage_model.specs.Relation.{Relation, relation, related}
use Rattle.storage_model.specs.Subsystem.{State, Event, write, barrier, writes_seen, barriers_seen}
use Rattle.storage_model.specs.Sound.{Sound, Within}
use Rattle.case.specs.Held.{pad, rows_of}
use Rattle.storage.specs.declared.Storage.{Storage as Held}

-- ---- what a struct means

-- an event by its number in a list: first the writes, then the barriers
unfoldable pub event_of : ℕ → Event
event_of x = cond (ltb x most_writes) (write x) (barrier (x - most_writes))

-- thread t's list
unfoldable pub list_at : (listed events : List ℕ) (t : ℕ) → List Event
list_at counts es t = table 0 (get_or counts t 0) (λ j. event_of (get_or es (t * most_listed + j) 0))

-- write a is before write b
unfoldable pub edge_in : (before : List ℕ) (a b : ℕ) → Bool
edge_in rows a b = bit (get_or rows b 0) a

unfoldable pub relation_in : (k : ℕ) (before : List ℕ) → Relation
relation_in k rows = relation k (edge_in rows)

-- all room beyond the counts is left out
unfoldable pub state_of : Held → State
state_of c = record {
  threads = c.threads;
  initials = table 0 c.addresses (λ x. get_or c.initial x 0);
  writes = table 0 c.writes (λ w. record { thread = get_or c.writer w 0; address = get_or c.address w 0; value = get_or c.value w 0 });
  coherence = relation_in c.writes c.before;
  barriers = table 0 c.barriers (λ b. record { thread = get_or c.owner b 0; class = get_or c.class b 0 });
  propagated = table 0 c.threads (list_at c.listed c.events);
  unacknowledged = table 0 c.barriers (λ b. eqb (get_or c.unacknowledged b 0) 1);
}

-- ---- how a state lies in a struct, with zeros beyond the counts

unfoldable pub entry_of : Event → ℕ
entry_of (write w) = w
entry_of (barrier b) = b + most_writes

-- the set of the numbers below k that pass
unfoldable pub set_of : (k : ℕ) → (ℕ → Bool) → ℕ
set_of zero p = 0
set_of (suc k) p = set_of k p + tick (p k) * 2 ^ k

-- a relation of k writes in rows
unfoldable pub rows_held : (k : ℕ) → Relation → List ℕ
rows_held k co = pad most_writes (table 0 k (λ b. set_of k (λ a. related co a b)))

unfoldable pub held : State → Held
held s = record {
  threads = s.threads;
  addresses = length s.initials;
  initial = pad most_addresses s.initials;
  writes = writes_seen s;
  writer = pad most_writes (map (λ w. w.thread) s.writes);
  address = pad most_writes (map (λ w. w.address) s.writes);
  value = pad most_writes (map (λ w. w.value) s.writes);
  before = rows_held (writes_seen s) s.coherence;
  barriers = barriers_seen s;
  owner = pad most_barriers (map (λ b. b.thread) s.barriers);
  class = pad most_barriers (map (λ b. b.class) s.barriers);
  unacknowledged = pad most_barriers (map tick s.unacknowledged);
  listed = pad most_threads (map length s.propagated);
  events = pad (most_threads * most_listed) (rows_of most_listed (map (map entry_of) s.propagated));
}

-- what stands beside a refusal
unfoldable pub empty_storage : Held
empty_storage = record {
  threads = 0;
  addresses = 0;
  initial = replicate most_addresses 0;
  writes = 0;
  writer = replicate most_writes 0;
  address = replicate most_writes 0;
  value = replicate most_writes 0;
  before = replicate most_writes 0;
  barriers = 0;
  owner = replicate most_barriers 0;
  class = replicate most_barriers 0;
  unacknowledged = replicate most_barriers 0;
  listed = replicate most_threads 0;
  events = replicate (most_threads * most_listed) 0;
}

-- the struct holds a state that is sound and keeps the limits, with zeros beyond the counts
pub record Good (c : Held) : Type 0 where
  pub same : c ≡ held (state_of c)
  pub sound : Sound (state_of c)
  pub within : Within (state_of c)
