-- A trace, byte by byte: what reading it answers (02 (ii)): "A trace in our number groups: n, m, initial values, step count up to 128,
-- steps."
-- Assumes nothing.
use Rattle.std.specs.Prelude.{ℕ, Bool, cond, ◌&&◌, List, [], ltb, eqb}
use Rattle.finite.specs.Tests.{◌⇒◌}
use Rattle.number.specs.Reader.{Out, Reader, give, ◌>>=◌, unless, turns, another, times, up_to, within, below, under}
use Rattle.model.specs.Limits.{most_threads, most_addresses, most_value}
use Rattle.storage_model.specs.Limits.{most_kind, most_steps, most_writes, most_barriers}
use Rattle.storage_model.specs.Trace.{Trace, Step, accept_write, accept_barrier, propagate_write, propagate_barrier, commit, respond, acknowledge, lwsync, writes_in, barriers_in}

-- the fields of each kind of step, "in the order named"; numbers "naming none are 3"
unfoldable pub accept_write_fields : (n m : ℕ) → Reader Step
accept_write_fields n m = do
  thread ← below n
  address ← below m
  value ← up_to most_value
  give (accept_write thread address value)

unfoldable pub accept_barrier_fields : (n : ℕ) → Reader Step
accept_barrier_fields n = do
  thread ← below n
  class ← up_to lwsync
  give (accept_barrier thread class)

unfoldable pub propagate_write_fields : (n w : ℕ) → Reader Step
propagate_write_fields n w = do
  which ← under w
  thread ← below n
  give (propagate_write which thread)

unfoldable pub propagate_barrier_fields : (n b : ℕ) → Reader Step
propagate_barrier_fields n b = do
  which ← under b
  thread ← below n
  give (propagate_barrier which thread)

unfoldable pub commit_fields : (w : ℕ) → Reader Step
commit_fields w = do
  first ← under w
  second ← under w
  give (commit first second)

unfoldable pub respond_fields : (n m : ℕ) → Reader Step
respond_fields n m = do
  thread ← below n
  address ← below m
  value ← up_to most_value
  give (respond thread address value)

unfoldable pub acknowledge_fields : (b : ℕ) → Reader Step
acknowledge_fields b = do
  which ← under b
  give (acknowledge which)

-- by the kind, 1 to 7, behind w writes and b barriers
unfoldable pub fields : (n m w b kind : ℕ) → Reader Step
fields n m w b kind =
    cond (eqb kind 1) (accept_write_fields n m)
    (cond (eqb kind 2) (accept_barrier_fields n)
    (cond (eqb kind 3) (propagate_write_fields n w)
    (cond (eqb kind 4) (propagate_barrier_fields n b)
    (cond (eqb kind 5) (commit_fields w)
    (cond (eqb kind 6) (respond_fields n m)
    (acknowledge_fields b))))))

-- 02 (ii): "a write or barrier too many" is 3 "at its step's first number"
unfoldable pub room_for : (w b kind : ℕ) → Bool
room_for w b kind = (eqb kind 1 ⇒ ltb w most_writes) && (eqb kind 2 ⇒ ltb b most_barriers)

-- 02 (ii): "A step is its kind, then its fields in the order named."
unfoldable pub step : (n m w b : ℕ) → Reader Step
step n m w b = do
  kind ← unless 3 (room_for w b) (within 1 most_kind)
  fields n m w b kind

-- the step behind those before it, which say how many writes and barriers there are
abbrev pub next_step : (n m : ℕ) → List Step → Reader (List Step)
next_step n m before = another (step n m (writes_in before) (barriers_in before)) before

-- what follows n and m
unfoldable pub listing : (n m : ℕ) → Reader Trace
listing n m = do
  initials ← times m (up_to most_value)
  i ← up_to most_steps
  steps ← turns i (next_step n m) []
  give (record { n = n; m = m; initials = initials; steps = steps })

unfoldable pub trace : Reader Trace
trace = do
  n ← within 1 most_threads
  m ← within 1 most_addresses
  listing n m

-- the trace and its length in bytes, or the refusal and its place
unfoldable pub read_trace : List ℕ → Out Trace
read_trace s = trace s 0
