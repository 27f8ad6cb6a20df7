-- The struct after a step's stores holds the state behind the step.
-- Assumes nothing.
use Prim.Native.Nat.{ℕ, ◌+◌, ◌*◌, ◌<◌}
use mathlib.Core.Path.{◌≡◌, sym, ap, ap₂, ◌∙◌}
use mathlib.Core.Bool.{false, ◌&&◌}
use mathlib.Core.List.{List, [], ◌∷◌, ◌++◌, map}
use lib.Dec.{eqb, ltb}
use lib.ListN.{length, get_or, set, length-append}
use Rattle.finite.specs.Tests.{tick}
use Rattle.finite.proofs.Lists.{one_longer}
use Rattle.model.specs.Limits.{most_threads}
use Rattle.storage_model.specs.Limits.{most_writes, most_barriers, most_listed}
use Rattle.storage_model.specs.Trace.{accept_write, accept_barrier, acknowledge, sync}
use Rattle.storage_model.specs.Relation.{related}
use Rattle.storage_model.specs.Subsystem.{State, Write, Barrier, Event, write, barrier, events, coherent, writes_seen, barriers_seen, appended, followed, with_event, effect}
use Rattle.case.specs.Held.{pad, rows_of}
use Rattle.case.proofs.Pad.{pad-next, field_put}
use Rattle.storage.specs.Held.{state_of, held, event_of, entry_of, rows_held, Good}
use Rattle.storage.specs.declared.Storage.{Storage as Held}
use Rattle.storage.proofs.Events.{write_of, barrier_of, entry_back}
use Rattle.storage.proofs.Stores.{listed-append, events-append, before_more}
use Rattle.storage.proofs.Means.{writes-of, barriers-of, lists_of, marks_of, events-of, list_length, list_short, listed_is, events_is, unacknowledged_is}
use Rattle.transitions.specs.Steps.{NewRow}
use Rattle.transitions.proofs.Followed.{followed-last, followed-kept}

-- ---- the stores

-- entry x behind thread t's list
abbrev pub with_entry : Held → (t x : ℕ) → Held
with_entry c t x = record {
  threads = c.threads;
  addresses = c.addresses;
  initial = c.initial;
  writes = c.writes;
  writer = c.writer;
  address = c.address;
  value = c.value;
  before = c.before;
  barriers = c.barriers;
  owner = c.owner;
  class = c.class;
  unacknowledged = c.unacknowledged;
  listed = set c.listed t (get_or c.listed t 0 + 1);
  events = set c.events (t * most_listed + get_or c.listed t 0) x;
}

-- write w, and the writes before it
abbrev pub with_write : Held → (w t a v row : ℕ) → Held
with_write c w t a v row = record {
  threads = c.threads;
  addresses = c.addresses;
  initial = c.initial;
  writes = w + 1;
  writer = set c.writer w t;
  address = set c.address w a;
  value = set c.value w v;
  before = set c.before w row;
  barriers = c.barriers;
  owner = c.owner;
  class = c.class;
  unacknowledged = c.unacknowledged;
  listed = c.listed;
  events = c.events;
}

-- barrier b, and whether it is to be acknowledged
abbrev pub with_barrier : Held → (b t class mark : ℕ) → Held
with_barrier c b t class mark = record {
  threads = c.threads;
  addresses = c.addresses;
  initial = c.initial;
  writes = c.writes;
  writer = c.writer;
  address = c.address;
  value = c.value;
  before = c.before;
  barriers = b + 1;
  owner = set c.owner b t;
  class = set c.class b class;
  unacknowledged = set c.unacknowledged b mark;
  listed = c.listed;
  events = c.events;
}

-- barrier b acknowledged
abbrev pub with_acknowledged : Held → (b : ℕ) → Held
with_acknowledged c b = record {
  threads = c.threads;
  addresses = c.addresses;
  initial = c.initial;
  writes = c.writes;
  writer = c.writer;
  address = c.address;
  value = c.value;
  before = c.before;
  barriers = c.barriers;
  owner = c.owner;
  class = c.class;
  unacknowledged = set c.unacknowledged b 0;
  listed = c.listed;
  events = c.events;
}

-- ---- what they hold
module _ (c : Held) (G : Good c) where
  abbrev s : State
  s = state_of c

  -- the length of a thread's list
  pub list_of : (t : ℕ) → t < c.threads → length (get_or s.propagated t []) ≡ get_or c.listed t 0
  list_of t l = unfold events in (ap length (events-of c t l) ∙ list_length c t)

  -- an event more in a thread's list
  pub append-held : (t x : ℕ) → t < c.threads → get_or c.listed t 0 < most_listed → with_entry c t x ≡ held (with_event s t (event_of x))
  unfolding held
  append-held t x l room = λ i. record {
    threads = (G.same i).threads;
    addresses = (G.same i).addresses;
    initial = (G.same i).initial;
    writes = (G.same i).writes;
    writer = (G.same i).writer;
    address = (G.same i).address;
    value = (G.same i).value;
    before = (G.same i).before;
    barriers = (G.same i).barriers;
    owner = (G.same i).owner;
    class = (G.same i).class;
    unacknowledged = (G.same i).unacknowledged;
    listed = lengths i;
    events = entries i;
  }
    where
      ls : List (List Event)
      ls = s.propagated

      in_range : t < length ls
      in_range = rw (lists_of c) l

      lengths : set c.listed t (get_or c.listed t 0 + 1) ≡ pad most_threads (map length (appended ls t (event_of x)))
      lengths =
          ap₂ (λ (a : List ℕ) (n : ℕ). set a t (n + 1)) (listed_is c G) (sym (list_of t l)) ∙ listed-append ls t (event_of x) in_range

      entries : set c.events (t * most_listed + get_or c.listed t 0) x
          ≡ pad (most_threads * most_listed) (rows_of most_listed (map (map entry_of) (appended ls t (event_of x))))
      entries =
          ap₂ (λ (a : List ℕ) (n : ℕ). set a (t * most_listed + n) x) (events_is c G) (sym (list_of t l))
          ∙ ap (set (pad (most_threads * most_listed) (rows_of most_listed (map (map entry_of) ls))) (t * most_listed + length (get_or ls t []))) (sym (entry_back x))
          ∙ events-append ls t (event_of x) in_range (λ y _. unfold events in list_short c G y) (rw (list_of t l) room)

  -- a write accepted: its number is in its thread's list already
  module _ (t a v row : ℕ) (out : Held) (listed : out ≡ held (with_event s t (event_of c.writes))) (room : c.writes < most_writes) (new : NewRow c t a row) where
    abbrev new_write : Write
    new_write = record { thread = t; address = a; value = v }

    write-listed : out ≡ held (with_event s t (write (writes_seen s)))
    write-listed = listed ∙ ap (λ (x : Event). held (with_event s t x)) (write_of c.writes room ∙ ap write (sym (writes-of c)))

    -- what stands behind the writes of a field
    field : (f : Write → ℕ) → set (pad most_writes (map f s.writes)) c.writes (f new_write) ≡ pad most_writes (map f (s.writes ++ (new_write ∷ [])))
    field f = pad-next f most_writes s.writes new_write c.writes (writes-of c) room

    rows : set out.before c.writes row
        ≡ rows_held (length (s.writes ++ (new_write ∷ []))) (followed s t a)
    unfolding held coherent
    rows =
        ap₂ (λ (x : Held) (k : ℕ). set x.before k row) write-listed (sym (writes-of c))
        ∙ before_more (writes_seen s) s.coherence (followed s t a) row (rw (writes-of c) room)
        (λ x y _ l. followed-kept s G.sound t a x y l) (followed-last s G.sound t a)
        (λ x. new.set.has x ∙ ap (λ (k : ℕ). ltb x k && related (followed s t a) x k) (sym (writes-of c)))
        ∙ ap (λ (k : ℕ). rows_held k (followed s t a)) (sym (one_longer s.writes new_write))

    pub write-held : with_write out c.writes t a v row ≡ held (effect s (accept_write t a v))
    unfolding held effect
    write-held = λ i. record {
      threads = (write-listed i).threads;
      addresses = (write-listed i).addresses;
      initial = (write-listed i).initial;
      writes = (ap (λ (k : ℕ). k + 1) (sym (writes-of c)) ∙ sym (length-append s.writes (new_write ∷ []))) i;
      writer = (ap (λ (x : Held). set x.writer c.writes t) write-listed ∙ field (λ x. x.thread)) i;
      address = (ap (λ (x : Held). set x.address c.writes a) write-listed ∙ field (λ x. x.address)) i;
      value = (ap (λ (x : Held). set x.value c.writes v) write-listed ∙ field (λ x. x.value)) i;
      before = rows i;
      barriers = (write-listed i).barriers;
      owner = (write-listed i).owner;
      class = (write-listed i).class;
      unacknowledged = (write-listed i).unacknowledged;
      listed = (write-listed i).listed;
      events = (write-listed i).events;
    }

  -- a barrier accepted
  module _ (t class mark : ℕ) (out : Held) (listed : out ≡ held (with_event s t (event_of (c.barriers + most_writes)))) (room : c.barriers < most_barriers)
      (marked : mark ≡ tick (eqb class sync)) where
    abbrev new_barrier : Barrier
    new_barrier = record { thread = t; class = class }

    barrier-listed : out ≡ held (with_event s t (barrier (barriers_seen s)))
    barrier-listed = listed ∙ ap (λ (x : Event). held (with_event s t x)) (barrier_of c.barriers ∙ ap barrier (sym (barriers-of c)))

    barrier_field : (f : Barrier → ℕ)
        → set (pad most_barriers (map f s.barriers)) c.barriers (f new_barrier) ≡ pad most_barriers (map f (s.barriers ++ (new_barrier ∷ [])))
    barrier_field f = pad-next f most_barriers s.barriers new_barrier c.barriers (barriers-of c) room

    pub barrier-held : with_barrier out c.barriers t class mark ≡ held (effect s (accept_barrier t class))
    unfolding held effect
    barrier-held = λ i. record {
      threads = (barrier-listed i).threads;
      addresses = (barrier-listed i).addresses;
      initial = (barrier-listed i).initial;
      writes = (barrier-listed i).writes;
      writer = (barrier-listed i).writer;
      address = (barrier-listed i).address;
      value = (barrier-listed i).value;
      before = (barrier-listed i).before;
      barriers = (ap (λ (k : ℕ). k + 1) (sym (barriers-of c)) ∙ sym (length-append s.barriers (new_barrier ∷ []))) i;
      owner = (ap (λ (x : Held). set x.owner c.barriers t) barrier-listed ∙ barrier_field (λ x. x.thread)) i;
      class = (ap (λ (x : Held). set x.class c.barriers class) barrier-listed ∙ barrier_field (λ x. x.class)) i;
      unacknowledged =
          (ap₂ (λ (x : Held) (m : ℕ). set x.unacknowledged c.barriers m) barrier-listed marked
          ∙ pad-next tick most_barriers s.unacknowledged (eqb class sync) c.barriers (marks_of c) room) i;
      listed = (barrier-listed i).listed;
      events = (barrier-listed i).events;
    }

  -- a sync acknowledged
  pub acknowledged_held : (b : ℕ) → b < c.barriers → with_acknowledged c b ≡ held (effect s (acknowledge b))
  unfolding held effect
  acknowledged_held b l = λ i. record {
    threads = (G.same i).threads;
    addresses = (G.same i).addresses;
    initial = (G.same i).initial;
    writes = (G.same i).writes;
    writer = (G.same i).writer;
    address = (G.same i).address;
    value = (G.same i).value;
    before = (G.same i).before;
    barriers = (G.same i).barriers;
    owner = (G.same i).owner;
    class = (G.same i).class;
    unacknowledged = marks i;
    listed = (G.same i).listed;
    events = (G.same i).events;
  }
    where
      marks : set c.unacknowledged b 0 ≡ pad most_barriers (map tick (set s.unacknowledged b false))
      marks = ap (λ (x : List ℕ). set x b 0) (unacknowledged_is c G) ∙ field_put tick most_barriers s.unacknowledged b false (rw (marks_of c) l)
