-- What holds of the state after every step that was enabled (02 (ii)): coherence "is transitive and has no cycle, and each thread's list
-- holds the writes to an address in coherence order".
-- Assumes nothing.
use Rattle.std.specs.Prelude.{ℕ, ◌≤◌, ◌<◌, ◌≡◌, true, List, length}
use Rattle.finite.specs.Lists.{All}
use Rattle.model.specs.Limits.{most_threads, most_addresses, most_value}
use Rattle.storage_model.specs.Limits.{most_writes, most_barriers}
use Rattle.storage_model.specs.Trace.{sync, lwsync}
use Rattle.storage_model.specs.Relation.{relation}
use Rattle.storage_model.specs.Subsystem.{State, Write, Barrier, Event, write, barrier, member, precedes, address, class, events, coherent, writes_seen, barriers_seen, unacknowledged_sync}

-- coherence
pub record Ordered (s : State) : Type 0 where
  pub transitive : (a b c : ℕ) → coherent s a b ≡ true → coherent s b c ≡ true → coherent s a c ≡ true
  -- with `transitive`: there is no cycle
  pub irreflexive : (a : ℕ) → coherent s a a ≡ true → ⊥
  -- 002, 4.2: "It does not relate writes to different addresses"
  pub one_address : (a b : ℕ) → coherent s a b ≡ true → address s a ≡ address s b
  -- "or relate any write that has not been seen by the storage subsystem to any write"
  pub seen : (a b : ℕ) → coherent s a b ≡ true → (a < writes_seen s) × (b < writes_seen s)

-- a thread's list
pub record Listed (s : State) (l : List Event) : Type 0 where
  -- it "holds the writes to an address in coherence order"
  pub in_order : (a b : ℕ) → precedes (write a) (write b) l ≡ true → address s a ≡ address s b → coherent s a b ≡ true
  -- no event stands in it twice
  pub once : (e : Event) → precedes e e l ≡ true → ⊥
  pub writes : (w : ℕ) → member (write w) l ≡ true → w < writes_seen s
  pub barriers : (b : ℕ) → member (barrier b) l ≡ true → b < barriers_seen s

-- the syncs that are not acknowledged
pub record Syncs (s : State) : Type 0 where
  pub as_many : length s.unacknowledged ≡ barriers_seen s
  pub syncs : (b : ℕ) → unacknowledged_sync s b ≡ true → class s b ≡ sync

pub record Sound (s : State) : Type 0 where
  pub ordered : Ordered s
  pub lists : (t : ℕ) → Listed s (events s t)
  pub syncs : Syncs s

-- a write and a barrier of a state with n threads and m addresses
pub record WriteWithin (n m : ℕ) (w : Write) : Type 0 where
  pub thread : w.thread < n
  pub address : w.address < m
  pub value : w.value ≤ most_value

pub record BarrierWithin (n : ℕ) (b : Barrier) : Type 0 where
  pub thread : b.thread < n
  pub class : b.class ≤ lwsync

-- the state keeps the limits
pub record Within (s : State) : Type 0 where
  pub threads : s.threads ≤ most_threads
  pub addresses : length s.initials ≤ most_addresses
  pub initials : All (λ v. v ≤ most_value) s.initials
  pub few_writes : writes_seen s ≤ most_writes
  pub writes : All (WriteWithin s.threads (length s.initials)) s.writes
  pub few_barriers : barriers_seen s ≤ most_barriers
  pub barriers : All (BarrierWithin s.threads) s.barriers
  pub lists : length s.propagated ≡ s.threads
  -- coherence is a table of the writes seen
  pub coherence : s.coherence ≡ relation (writes_seen s) (coherent s)
