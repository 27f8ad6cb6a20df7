-- The storage subsystem: source document 002, sections 4.2 (states) and 4.3 (transitions), which decide. 02 (ii) calls it the storage machine.
-- The initial writes are not numbered: each has been propagated to all threads before any step and comes before every other write to its
-- address, so no condition fails by them; a read response takes the initial value where no other write has been propagated.
-- Assumes nothing.
use Rattle.std.specs.Prelude.{ℕ, suc, Bool, true, false, not, cond, ◌&&◌, ◌||◌, List, [], ◌∷◌, ◌++◌, eqb, length, get_or, set, replicate}
use Rattle.finite.specs.Tests.{all, some, ◌⇒◌}
use Rattle.model.specs.Limits.{most_threads, most_addresses}
use Rattle.model.specs.Rules.{or_else}
use Rattle.storage_model.specs.Trace.{Trace, Step, accept_write, accept_barrier, propagate_write, propagate_barrier, commit, respond, acknowledge, sync, lwsync}
use Rattle.storage_model.specs.Relation.{Relation, related, closure, acyclic}

pub record Write : Type 0 where
  pub thread : ℕ
  pub address : ℕ
  pub value : ℕ

pub record Barrier : Type 0 where
  pub thread : ℕ
  pub class : ℕ

-- what a thread's list holds: "writes" and "barriers", each by its number
pub data Event : Type 0 where
  write : ℕ → Event
  barrier : ℕ → Event

-- 002, 4.2: "A storage subsystem state s has the following components."
pub record State : Type 0 where
  -- "s.threads is the set of thread ids that exist in the system": those below it
  pub threads : ℕ
  -- by address: the value of the write that is there at the start
  pub initials : List ℕ
  -- "s.writes_seen is the set of all writes that the storage subsystem has seen": in the order accepted
  pub writes : List Write
  -- "s.coherence contains the pair (w1, w2) if the storage subsystem has committed to write w1 being before write w2"
  pub coherence : Relation
  -- the barriers seen, in the order accepted
  pub barriers : List Barrier
  -- "s.events_propagated_to gives, for each thread, a list": by thread
  pub propagated : List (List Event)
  -- "s.unacknowledged_sync_requests is the set of sync barrier requests that the storage subsystem has not yet acknowledged": by barrier
  pub unacknowledged : List Bool

-- ---- lists of events

unfoldable pub same : Event → Event → Bool
same (write a) (write b) = eqb a b
same (write a) (barrier b) = false
same (barrier a) (write b) = false
same (barrier a) (barrier b) = eqb a b

unfoldable pub member : Event → List Event → Bool
member e [] = false
member e (x ∷ l) = same e x || member e l

-- e stands before f in the list
unfoldable pub precedes : Event → Event → List Event → Bool
precedes e f [] = false
precedes e f (x ∷ l) = (same e x && member f l) || precedes e f l

-- ---- a state's parts; past the last write and barrier stand labels that no thread and no address has

abbrev pub no_write : Write
no_write = record { thread = most_threads; address = most_addresses; value = 0 }

abbrev pub no_barrier : Barrier
no_barrier = record { thread = most_threads; class = lwsync }

unfoldable pub writer : State → ℕ → ℕ
writer s w = (get_or s.writes w no_write).thread

unfoldable pub address : State → ℕ → ℕ
address s w = (get_or s.writes w no_write).address

unfoldable pub value : State → ℕ → ℕ
value s w = (get_or s.writes w no_write).value

-- the thread that a barrier is of
unfoldable pub owner : State → ℕ → ℕ
owner s b = (get_or s.barriers b no_barrier).thread

unfoldable pub class : State → ℕ → ℕ
class s b = (get_or s.barriers b no_barrier).class

abbrev pub writes_seen : State → ℕ
writes_seen s = length s.writes

abbrev pub barriers_seen : State → ℕ
barriers_seen s = length s.barriers

-- "s.events_propagated_to(tid)"
unfoldable pub events : State → (thread : ℕ) → List Event
events s t = get_or s.propagated t []

-- the event has been propagated to thread t
unfoldable pub arrived : State → Event → (t : ℕ) → Bool
arrived s e t = member e (events s t)

-- write a is committed to be before write b
unfoldable pub coherent : State → (a b : ℕ) → Bool
coherent s a b = related s.coherence a b

-- "The Group A writes for a barrier are all the writes that have been propagated to the barrier's thread before the barrier is."
unfoldable pub group_a : State → (b w : ℕ) → Bool
group_a s b w = precedes (write w) (barrier b) (events s (owner s b))

-- "w1 and w2 are separated by a barrier in the list of events propagated to the thread of w2"
unfoldable pub separated : State → (a b : ℕ) → Bool
separated s a b =
    some (barriers_seen s) (λ z. precedes (write a) (barrier z) (events s (writer s b)) && precedes (barrier z) (write b) (events s (writer s b)))

-- "the most recent write w to the same address that has been propagated to tid": its value; the initial value if there is none
unfoldable pub latest : State → (a v : ℕ) → List Event → ℕ
latest s a v [] = v
latest s a v (write w ∷ l) = latest s a (cond (eqb (address s w) a) (value s w) v) l
latest s a v (barrier b ∷ l) = latest s a v l

-- ---- the conditions of 002, 4.3

-- Propagate write to another thread. "1. the write has not yet been propagated to tid'": its own thread has it from the start
unfoldable pub write_is_new : State → (w t : ℕ) → Bool
write_is_new s w t = not (arrived s (write w) t)

-- "2. w is coherence-after any write to the same address that has already been propagated to tid'"
unfoldable pub write_is_after : State → (w t : ℕ) → Bool
write_is_after s w t = all (writes_seen s) (λ v. (arrived s (write v) t && eqb (address s v) (address s w)) ⇒ coherent s v w)

-- "3. all barriers that were propagated to tid before w (in s.events_propagated_to(tid)) have already been propagated to tid'"
unfoldable pub barriers_went_before : State → (w t : ℕ) → Bool
barriers_went_before s w t = all (barriers_seen s) (λ b. precedes (barrier b) (write w) (events s (writer s w)) ⇒ arrived s (barrier b) t)

-- Propagate barrier to another thread. "1. the barrier has not yet been propagated to that thread"
unfoldable pub barrier_is_new : State → (b t : ℕ) → Bool
barrier_is_new s b t = not (arrived s (barrier b) t)

-- "2. for each Group A write, that write (or some coherence successor) has already been propagated to that thread"
unfoldable pub group_a_went_before : State → (b t : ℕ) → Bool
group_a_went_before s b t =
    all (writes_seen s) (λ v. group_a s b v ⇒ some (writes_seen s) (λ w. (eqb v w || coherent s v w) && arrived s (write w) t))

-- Partial coherence commitment. "adding an arbitrary edge (between a pair of writes to that address that have been seen already that
-- are not yet related by coherence) .. together with any edges implied by transitivity"
unfoldable pub committed : State → (x y : ℕ) → Relation
committed s x y = closure (writes_seen s) (λ a b. coherent s a b || (eqb a x && eqb b y))

-- "a pair of writes to that address"
unfoldable pub to_one_address : State → (x y : ℕ) → Bool
to_one_address s x y = eqb (address s x) (address s y)

-- "that are not yet related by coherence"
unfoldable pub unrelated : State → (x y : ℕ) → Bool
unrelated s x y = not (coherent s x y) && not (coherent s y x)

-- "if there is no cycle in the union of the resulting coherence order and the set of all pairs of writes (w1, w2), to any address, for
-- which w1 and w2 are separated by a barrier in the list of events propagated to the thread of w2." An edge from a write to itself is one
unfoldable pub acyclic_with : State → Relation → Bool
acyclic_with s co = acyclic (writes_seen s) (λ a b. related co a b || separated s a b)

-- Send a read response. "reply with the most recent write w to the same address that has been propagated to tid"; 02 (ii): "the initial
-- value if no write to it has propagated there"
unfoldable pub responds_latest : State → (t a v : ℕ) → Bool
responds_latest s t a v = eqb v (latest s a (get_or s.initials a 0) (events s t))

-- Acknowledge sync barrier. 02 (ii): "Acknowledging an lwsync, or a sync again, is never enabled"
unfoldable pub unacknowledged_sync : State → ℕ → Bool
unacknowledged_sync s b = get_or s.unacknowledged b false

-- "if it has been propagated to all threads"
unfoldable pub everywhere : State → ℕ → Bool
everywhere s b = all s.threads (λ t. arrived s (barrier b) t)

-- ---- a step's condition, and its effect

unfoldable pub enabled : State → Step → Bool
-- "A write request by a thread tid can always be accepted."
enabled s (accept_write t a v) = true
-- "A barrier request from a thread tid can always be accepted."
enabled s (accept_barrier t c) = true
enabled s (propagate_write w t) = write_is_new s w t && (write_is_after s w t && barriers_went_before s w t)
enabled s (propagate_barrier b t) = barrier_is_new s b t && group_a_went_before s b t
enabled s (commit x y) = to_one_address s x y && (unrelated s x y && acyclic_with s (committed s x y))
enabled s (respond t a v) = responds_latest s t a v
enabled s (acknowledge b) = unacknowledged_sync s b && everywhere s b

-- the first of a step's conditions that fails, counted from 1 in the order of 002's sentence; 0 where none does
unfoldable pub failing : State → Step → ℕ
failing s (accept_write t a v) = 0
failing s (accept_barrier t c) = 0
failing s (propagate_write w t) = or_else (write_is_new s w t) 1 (or_else (write_is_after s w t) 2 (or_else (barriers_went_before s w t) 3 0))
failing s (propagate_barrier b t) = or_else (barrier_is_new s b t) 1 (or_else (group_a_went_before s b t) 2 0)
failing s (commit x y) = or_else (to_one_address s x y) 1 (or_else (unrelated s x y) 2 (or_else (acyclic_with s (committed s x y)) 3 0))
failing s (respond t a v) = or_else (responds_latest s t a v) 1 0
failing s (acknowledge b) = or_else (unacknowledged_sync s b) 1 (or_else (everywhere s b) 2 0)

-- "append .. to s.events_propagated_to(tid)"
abbrev pub appended : List (List Event) → (t : ℕ) → Event → List (List Event)
appended ls t e = set ls t (get_or ls t [] ++ (e ∷ []))

-- the effect of both kinds of propagation
abbrev pub with_event : State → (t : ℕ) → Event → State
with_event s t e = record {
  threads = s.threads;
  initials = s.initials;
  writes = s.writes;
  coherence = s.coherence;
  barriers = s.barriers;
  propagated = appended s.propagated t e;
  unacknowledged = s.unacknowledged;
}

-- "note that the new write is coherence-after all writes (to the same address) that have previously propagated to this thread"; 02 (ii):
-- "Kinds 1 and 5 close coherence by transitivity"
unfoldable pub followed : State → (t a : ℕ) → Relation
followed s t a =
    closure (suc (writes_seen s)) (λ v w. coherent s v w || (eqb w (writes_seen s) && (arrived s (write v) t && eqb (address s v) a)))

unfoldable pub effect : State → Step → State
-- "1. add the new write to s.writes_seen ..; 2. append the new write to s.events_propagated_to(tid) ..; and 3. update s.coherence .."
effect s (accept_write t a v) = record {
  threads = s.threads;
  initials = s.initials;
  writes = s.writes ++ (record { thread = t; address = a; value = v } ∷ []);
  coherence = followed s t a;
  barriers = s.barriers;
  propagated = appended s.propagated t (write (writes_seen s));
  unacknowledged = s.unacknowledged;
}
-- "1. append it to s.events_propagated_to(tid) ..; and 2. (for sync) add it to s.unacknowledged_sync_requests."
effect s (accept_barrier t c) = record {
  threads = s.threads;
  initials = s.initials;
  writes = s.writes;
  coherence = s.coherence;
  barriers = s.barriers ++ (record { thread = t; class = c } ∷ []);
  propagated = appended s.propagated t (barrier (barriers_seen s));
  unacknowledged = s.unacknowledged ++ (eqb c sync ∷ []);
}
-- "append w to s.events_propagated_to(tid')"
effect s (propagate_write w t) = with_event s t (write w)
-- "append the barrier to s.events_propagated_to(tid)"
effect s (propagate_barrier b t) = with_event s t (barrier b)
-- "Add the new edges to s.coherence."
effect s (commit x y) = record {
  threads = s.threads;
  initials = s.initials;
  writes = s.writes;
  coherence = committed s x y;
  barriers = s.barriers;
  propagated = s.propagated;
  unacknowledged = s.unacknowledged;
}
-- "send a read-response message containing w to tid"
effect s (respond t a v) = s
-- "remove b from s.unacknowledged_sync_requests"
effect s (acknowledge b) = record {
  threads = s.threads;
  initials = s.initials;
  writes = s.writes;
  coherence = s.coherence;
  barriers = s.barriers;
  propagated = s.propagated;
  unacknowledged = set s.unacknowledged b false;
}

-- 002, 4.2: "An initial state for the storage subsystem has .. exactly one write for each memory address, all of which have been
-- propagated to all threads .., an empty coherence order, and no unacknowledged sync requests."
unfoldable pub initial : (n : ℕ) (initials : List ℕ) → State
initial n initials = record {
  threads = n;
  initials = initials;
  writes = [];
  coherence = [];
  barriers = [];
  propagated = replicate n [];
  unacknowledged = [];
}

-- 02 (ii): "A trace is accepted exactly when each step is enabled where it stands; otherwise 31 and the first step that isn't"
pub data Ran : Type 0 where
  -- the first step that is not enabled, and the first of its conditions that fails
  refused : (step condition : ℕ) → Ran
  -- the state after the last step
  accepted : State → Ran

-- the steps from s on, the first of which is numbered i
unfoldable pub run_from : (i : ℕ) → State → List Step → Ran
run_from i s [] = accepted s
run_from i s (x ∷ xs) = cond (enabled s x) (run_from (suc i) (effect s x) xs) (refused i (failing s x))

unfoldable pub run : Trace → Ran
run t = run_from 0 (initial t.n t.initials) t.steps
