-- The worked traces: of 002's tests, of each condition of its section 4.3, and of the layout.
-- Assumes nothing.
use Rattle.std.specs.Prelude.{ℕ, zero, suc, Bool, ◌&&◌, List, [], ◌∷◌, ◌++◌, eqb, length}
use Rattle.finite.specs.Lists.{every}
use Rattle.storage_model.specs.Trace.{Step, accept_write, accept_barrier, propagate_write, propagate_barrier, commit, respond, acknowledge}
use Rattle.storage_model.specs.Written.{trace_bytes}
use Rattle.storage_model.specs.Answers.{Answer, judge_trace}

pub data Row : Type 0 where
  -- the trace's bytes are read whole, and each step is enabled
  accepts : (n m : ℕ) (initials : List ℕ) (steps : List Step) → Row
  -- step at is the first that is not enabled, and the first of its conditions that fails
  refuses : (at condition n m : ℕ) (initials : List ℕ) (steps : List Step) → Row
  -- the bytes, and what judging them answers; no step is refused
  reads : (number place length : ℕ) (bytes : List ℕ) → Row

-- the answer but for its end state
unfoldable pub says : Answer → (number place step condition length : ℕ) → Bool
says a x p i c l = eqb a.number x && (eqb a.place p && (eqb a.step i && (eqb a.condition c && eqb a.length l)))

abbrev pub holds_bytes : Row → Bool
holds_bytes (accepts n m initials steps) =
    let bytes = trace_bytes (record { n = n; m = m; initials = initials; steps = steps }) in
    says (judge_trace bytes) 0 0 0 0 (length bytes)
holds_bytes (refuses at c n m initials steps) =
    says (judge_trace (trace_bytes (record { n = n; m = m; initials = initials; steps = steps }))) 31 0 at c 0
holds_bytes (reads x p l bytes) = says (judge_trace bytes) x p 0 0 l

unfoldable pub holds : Row → Bool
holds r = holds_bytes r

-- 002, sections 2 and 5: an outcome that is allowed, and the step at which one that is forbidden ends
unfoldable pub simple_cases : List Row
simple_cases =
    -- MP: the flag arrives, the data not yet
    accepts 2 2 (0 ∷ 0 ∷ []) (accept_write 0 0 1 ∷ accept_write 0 1 1 ∷ propagate_write 1 1 ∷ respond 1 1 1 ∷ respond 1 0 0 ∷ []) ∷
    -- MP+lwsync+addr: the data and the barrier arrive first
    accepts 2 2 (0 ∷ 0 ∷ []) (accept_write 0 0 1 ∷ accept_barrier 0 1 ∷ accept_write 0 1 1 ∷ propagate_write 0 1 ∷ propagate_barrier 0 1 ∷ propagate_write 1 1 ∷ respond 1 1 1 ∷ respond 1 0 1 ∷ []) ∷
    -- the flag cannot arrive before the barrier
    refuses 3 3 2 2 (0 ∷ 0 ∷ []) (accept_write 0 0 1 ∷ accept_barrier 0 1 ∷ accept_write 0 1 1 ∷ propagate_write 1 1 ∷ respond 1 1 1 ∷ respond 1 0 0 ∷ []) ∷
    -- nor the barrier before the data
    refuses 3 2 2 2 (0 ∷ 0 ∷ []) (accept_write 0 0 1 ∷ accept_barrier 0 1 ∷ accept_write 0 1 1 ∷ propagate_barrier 0 1 ∷ propagate_write 1 1 ∷ respond 1 1 1 ∷ respond 1 0 0 ∷ []) ∷
    -- nor is the old data read then
    refuses 7 1 2 2 (0 ∷ 0 ∷ []) (accept_write 0 0 1 ∷ accept_barrier 0 1 ∷ accept_write 0 1 1 ∷ propagate_write 0 1 ∷ propagate_barrier 0 1 ∷ propagate_write 1 1 ∷ respond 1 1 1 ∷ respond 1 0 0 ∷ []) ∷
    -- SB: both threads read before the writes arrive
    accepts 2 2 (0 ∷ 0 ∷ []) (accept_write 0 0 1 ∷ accept_write 1 1 1 ∷ respond 0 1 0 ∷ respond 1 0 0 ∷ []) ∷
    -- SB+syncs: each sync is acknowledged after the write before it went to all; the second thread then reads 1
    accepts 2 2 (0 ∷ 0 ∷ []) (accept_write 0 0 1 ∷ accept_barrier 0 0 ∷ propagate_write 0 1 ∷ propagate_barrier 0 1 ∷ acknowledge 0 ∷ respond 0 1 0 ∷ accept_write 1 1 1 ∷ accept_barrier 1 0 ∷ propagate_write 1 0 ∷ propagate_barrier 1 0 ∷ acknowledge 1 ∷ respond 1 0 1 ∷ []) ∷
    -- and not 0
    refuses 11 1 2 2 (0 ∷ 0 ∷ []) (accept_write 0 0 1 ∷ accept_barrier 0 0 ∷ propagate_write 0 1 ∷ propagate_barrier 0 1 ∷ acknowledge 0 ∷ respond 0 1 0 ∷ accept_write 1 1 1 ∷ accept_barrier 1 0 ∷ propagate_write 1 0 ∷ propagate_barrier 1 0 ∷ acknowledge 1 ∷ respond 1 0 0 ∷ []) ∷
    -- WRC
    accepts 3 2 (0 ∷ 0 ∷ []) (accept_write 0 0 1 ∷ propagate_write 0 1 ∷ respond 1 0 1 ∷ accept_write 1 1 1 ∷ propagate_write 1 2 ∷ respond 2 1 1 ∷ respond 2 0 0 ∷ []) ∷
    -- WRC+sync+addr: the write that thread 1 read goes before its own
    accepts 3 2 (0 ∷ 0 ∷ []) (accept_write 0 0 1 ∷ propagate_write 0 1 ∷ respond 1 0 1 ∷ accept_barrier 1 0 ∷ propagate_write 0 2 ∷ propagate_barrier 0 2 ∷ propagate_barrier 0 0 ∷ acknowledge 0 ∷ accept_write 1 1 1 ∷ propagate_write 1 2 ∷ respond 2 1 1 ∷ respond 2 0 1 ∷ []) ∷
    -- else the sync does not arrive
    refuses 5 2 3 2 (0 ∷ 0 ∷ []) (accept_write 0 0 1 ∷ propagate_write 0 1 ∷ respond 1 0 1 ∷ accept_barrier 1 0 ∷ propagate_barrier 0 0 ∷ propagate_barrier 0 2 ∷ acknowledge 0 ∷ accept_write 1 1 1 ∷ propagate_write 1 2 ∷ respond 2 1 1 ∷ respond 2 0 0 ∷ []) ∷
    -- nor the write behind it
    refuses 5 3 3 2 (0 ∷ 0 ∷ []) (accept_write 0 0 1 ∷ propagate_write 0 1 ∷ respond 1 0 1 ∷ accept_barrier 1 0 ∷ accept_write 1 1 1 ∷ propagate_write 1 2 ∷ respond 2 1 1 ∷ respond 2 0 0 ∷ []) ∷
    -- ISA2+sync+data+addr: the sync goes on to thread 2 before the write of thread 1 that lies behind it there
    accepts 3 3 (0 ∷ 0 ∷ 0 ∷ []) (accept_write 0 0 1 ∷ accept_barrier 0 0 ∷ propagate_write 0 1 ∷ propagate_barrier 0 1 ∷ propagate_write 0 2 ∷ propagate_barrier 0 2 ∷ acknowledge 0 ∷ accept_write 0 1 1 ∷ propagate_write 1 1 ∷ respond 1 1 1 ∷ accept_write 1 2 1 ∷ propagate_write 2 2 ∷ respond 2 2 1 ∷ respond 2 0 1 ∷ []) ∷
    -- ISA2+lwsync+data+addr
    refuses 8 3 3 3 (0 ∷ 0 ∷ 0 ∷ []) (accept_write 0 0 1 ∷ accept_barrier 0 1 ∷ accept_write 0 1 1 ∷ propagate_write 0 1 ∷ propagate_barrier 0 1 ∷ propagate_write 1 1 ∷ respond 1 1 1 ∷ accept_write 1 2 1 ∷ propagate_write 2 2 ∷ respond 2 2 1 ∷ respond 2 0 0 ∷ []) ∷
    -- IRIW
    accepts 4 2 (0 ∷ 0 ∷ []) (accept_write 0 0 1 ∷ accept_write 2 1 1 ∷ propagate_write 0 1 ∷ respond 1 0 1 ∷ respond 1 1 0 ∷ propagate_write 1 3 ∷ respond 3 1 1 ∷ respond 3 0 0 ∷ []) ∷
    -- IRIW+lwsyncs
    accepts 4 2 (0 ∷ 0 ∷ []) (accept_write 0 0 1 ∷ accept_write 2 1 1 ∷ propagate_write 0 1 ∷ respond 1 0 1 ∷ accept_barrier 1 1 ∷ respond 1 1 0 ∷ propagate_write 1 3 ∷ respond 3 1 1 ∷ accept_barrier 3 1 ∷ respond 3 0 0 ∷ []) ∷
    -- IRIW+syncs: the first sync is acknowledged once write 0 is at every thread, so that thread 3 reads 1
    accepts 4 2 (0 ∷ 0 ∷ []) (accept_write 0 0 1 ∷ accept_write 2 1 1 ∷ propagate_write 0 1 ∷ respond 1 0 1 ∷ accept_barrier 1 0 ∷ propagate_write 0 3 ∷ propagate_barrier 0 3 ∷ propagate_write 0 2 ∷ propagate_barrier 0 2 ∷ propagate_barrier 0 0 ∷ acknowledge 0 ∷ respond 1 1 0 ∷ propagate_write 1 3 ∷ respond 3 1 1 ∷ accept_barrier 3 0 ∷ propagate_write 1 0 ∷ propagate_barrier 1 0 ∷ propagate_write 1 1 ∷ propagate_barrier 1 1 ∷ propagate_barrier 1 2 ∷ acknowledge 1 ∷ respond 3 0 1 ∷ []) ∷
    -- and not 0
    refuses 21 1 4 2 (0 ∷ 0 ∷ []) (accept_write 0 0 1 ∷ accept_write 2 1 1 ∷ propagate_write 0 1 ∷ respond 1 0 1 ∷ accept_barrier 1 0 ∷ propagate_write 0 3 ∷ propagate_barrier 0 3 ∷ propagate_write 0 2 ∷ propagate_barrier 0 2 ∷ propagate_barrier 0 0 ∷ acknowledge 0 ∷ respond 1 1 0 ∷ propagate_write 1 3 ∷ respond 3 1 1 ∷ accept_barrier 3 0 ∷ propagate_write 1 0 ∷ propagate_barrier 1 0 ∷ propagate_write 1 1 ∷ propagate_barrier 1 1 ∷ propagate_barrier 1 2 ∷ acknowledge 1 ∷ respond 3 0 0 ∷ []) ∷
    -- the first is not acknowledged before its write is at thread 3
    refuses 8 2 4 2 (0 ∷ 0 ∷ []) (accept_write 0 0 1 ∷ accept_write 2 1 1 ∷ propagate_write 0 1 ∷ respond 1 0 1 ∷ accept_barrier 1 0 ∷ propagate_write 0 2 ∷ propagate_barrier 0 2 ∷ propagate_barrier 0 0 ∷ acknowledge 0 ∷ respond 1 1 0 ∷ []) ∷
    []

-- 002, sections 2 and 6: coherence
unfoldable pub coherence_cases : List Row
coherence_cases =
    -- CoRR1: a later write, then an earlier one
    refuses 4 2 2 1 (0 ∷ []) (accept_write 0 0 1 ∷ accept_write 0 0 2 ∷ propagate_write 1 1 ∷ respond 1 0 2 ∷ propagate_write 0 1 ∷ []) ∷
    -- both in order
    accepts 2 1 (0 ∷ []) (accept_write 0 0 1 ∷ accept_write 0 0 2 ∷ propagate_write 0 1 ∷ respond 1 0 1 ∷ propagate_write 1 1 ∷ respond 1 0 2 ∷ []) ∷
    -- CoWW: against program order
    refuses 2 2 1 1 (0 ∷ []) (accept_write 0 0 1 ∷ accept_write 0 0 2 ∷ commit 1 0 ∷ []) ∷
    -- CoWR: a write that is coherence-before the thread's own one
    refuses 3 2 2 1 (0 ∷ []) (accept_write 0 0 1 ∷ accept_write 1 0 2 ∷ commit 1 0 ∷ propagate_write 1 0 ∷ respond 0 0 2 ∷ []) ∷
    -- where it comes after the own one
    accepts 2 1 (0 ∷ []) (accept_write 0 0 1 ∷ accept_write 1 0 2 ∷ commit 0 1 ∷ propagate_write 1 0 ∷ respond 0 0 2 ∷ []) ∷
    -- CoRW: a write before the one that its thread read
    refuses 4 2 2 1 (0 ∷ []) (accept_write 1 0 2 ∷ propagate_write 0 0 ∷ respond 0 0 2 ∷ accept_write 0 0 1 ∷ commit 1 0 ∷ []) ∷
    -- 2+2W
    accepts 2 2 (0 ∷ 0 ∷ []) (accept_write 0 0 1 ∷ accept_write 0 1 2 ∷ accept_write 1 1 1 ∷ accept_write 1 0 2 ∷ commit 3 0 ∷ commit 1 2 ∷ []) ∷
    -- 2+2W+lwsyncs: after one commitment the other is no longer permitted
    refuses 7 3 2 2 (0 ∷ 0 ∷ []) (accept_write 0 0 1 ∷ accept_barrier 0 1 ∷ accept_write 0 1 2 ∷ accept_write 1 1 1 ∷ accept_barrier 1 1 ∷ accept_write 1 0 2 ∷ commit 3 0 ∷ commit 1 2 ∷ []) ∷
    -- 2+2W+syncs
    refuses 7 3 2 2 (0 ∷ 0 ∷ []) (accept_write 0 0 1 ∷ accept_barrier 0 0 ∷ accept_write 0 1 2 ∷ accept_write 1 1 1 ∷ accept_barrier 1 0 ∷ accept_write 1 0 2 ∷ commit 3 0 ∷ commit 1 2 ∷ []) ∷
    -- the other way round it is
    accepts 2 2 (0 ∷ 0 ∷ []) (accept_write 0 0 1 ∷ accept_barrier 0 1 ∷ accept_write 0 1 2 ∷ accept_write 1 1 1 ∷ accept_barrier 1 1 ∷ accept_write 1 0 2 ∷ commit 3 0 ∷ commit 2 1 ∷ []) ∷
    -- blw-w-006
    accepts 3 3 (0 ∷ 0 ∷ 0 ∷ []) (accept_write 0 0 1 ∷ accept_barrier 0 1 ∷ accept_write 0 1 1 ∷ accept_write 1 1 2 ∷ commit 1 2 ∷ accept_barrier 1 1 ∷ accept_write 1 2 1 ∷ propagate_write 2 2 ∷ propagate_barrier 1 2 ∷ propagate_write 3 2 ∷ respond 2 2 1 ∷ respond 2 0 0 ∷ []) ∷
    -- R01
    accepts 2 2 (0 ∷ 0 ∷ []) (accept_write 0 0 1 ∷ accept_barrier 0 1 ∷ accept_write 0 1 1 ∷ accept_write 1 1 2 ∷ commit 1 2 ∷ propagate_write 2 0 ∷ accept_barrier 1 0 ∷ propagate_barrier 1 0 ∷ acknowledge 1 ∷ respond 1 0 0 ∷ []) ∷
    []

-- each condition of 002, section 4.3, where it alone fails, and beside it a trace in which it holds
unfoldable pub condition_cases : List Row
condition_cases =
    -- propagate a write, 1: it is there already
    refuses 2 1 2 1 (0 ∷ []) (accept_write 0 0 1 ∷ propagate_write 0 1 ∷ propagate_write 0 1 ∷ []) ∷
    -- its own thread has it from the start
    refuses 1 1 2 1 (0 ∷ []) (accept_write 0 0 1 ∷ propagate_write 0 0 ∷ []) ∷
    -- 2: not yet committed to be after the one that is there
    refuses 2 2 2 1 (0 ∷ []) (accept_write 0 0 1 ∷ accept_write 1 0 2 ∷ propagate_write 0 1 ∷ []) ∷
    -- one to another address does not matter
    accepts 2 2 (0 ∷ 0 ∷ []) (accept_write 0 0 1 ∷ accept_write 1 1 2 ∷ propagate_write 0 1 ∷ []) ∷
    -- every one that is there counts, the last and others
    accepts 3 1 (0 ∷ []) (accept_write 0 0 1 ∷ accept_write 1 0 2 ∷ accept_write 2 0 3 ∷ commit 0 1 ∷ propagate_write 1 0 ∷ commit 1 2 ∷ propagate_write 2 0 ∷ []) ∷
    -- after one of them is not enough: write 2 comes after write 0, and not after write 1
    refuses 6 2 3 1 (0 ∷ []) (accept_write 0 0 1 ∷ accept_write 1 0 2 ∷ accept_write 2 0 3 ∷ commit 0 1 ∷ propagate_write 1 0 ∷ commit 0 2 ∷ propagate_write 2 0 ∷ []) ∷
    -- 3: a barrier before it in the list of its own thread is not there
    refuses 2 3 2 1 (0 ∷ []) (accept_barrier 0 1 ∷ accept_write 0 0 1 ∷ propagate_write 0 1 ∷ []) ∷
    -- 2 and 3 fail: the first of the two
    refuses 3 2 2 1 (0 ∷ []) (accept_barrier 0 1 ∷ accept_write 0 0 1 ∷ accept_write 1 0 2 ∷ propagate_write 0 1 ∷ []) ∷
    -- of two barriers before it one is not there
    refuses 4 3 2 1 (0 ∷ []) (accept_barrier 0 1 ∷ accept_barrier 0 1 ∷ accept_write 0 0 1 ∷ propagate_barrier 0 1 ∷ propagate_write 0 1 ∷ []) ∷
    refuses 4 3 2 1 (0 ∷ []) (accept_barrier 0 1 ∷ accept_barrier 0 1 ∷ accept_write 0 0 1 ∷ propagate_barrier 1 1 ∷ propagate_write 0 1 ∷ []) ∷
    -- a barrier behind it does not matter
    accepts 2 1 (0 ∷ []) (accept_write 0 0 1 ∷ accept_barrier 0 1 ∷ propagate_write 0 1 ∷ []) ∷
    -- nor one of the thread to which the write goes
    accepts 3 1 (0 ∷ []) (accept_barrier 1 1 ∷ accept_write 0 0 1 ∷ propagate_write 0 1 ∷ []) ∷
    -- a barrier of another thread that arrived before the write counts
    refuses 3 3 3 1 (0 ∷ []) (accept_barrier 0 1 ∷ propagate_barrier 0 1 ∷ accept_write 1 0 1 ∷ propagate_write 0 2 ∷ []) ∷
    -- and is asked of the thread to which the write goes
    accepts 3 1 (0 ∷ []) (accept_barrier 0 1 ∷ propagate_barrier 0 1 ∷ accept_write 1 0 1 ∷ propagate_barrier 0 2 ∷ propagate_write 0 2 ∷ propagate_write 0 0 ∷ []) ∷
    -- propagate a barrier, 1: it is there already
    refuses 2 1 2 1 (0 ∷ []) (accept_barrier 0 1 ∷ propagate_barrier 0 1 ∷ propagate_barrier 0 1 ∷ []) ∷
    -- its own thread has it from the start
    refuses 1 1 2 1 (0 ∷ []) (accept_barrier 0 0 ∷ propagate_barrier 0 0 ∷ []) ∷
    -- 2: a write before it is not there
    refuses 2 2 2 1 (0 ∷ []) (accept_write 0 0 1 ∷ accept_barrier 0 1 ∷ propagate_barrier 0 1 ∷ []) ∷
    -- a write behind it does not matter
    accepts 2 1 (0 ∷ []) (accept_barrier 0 1 ∷ accept_write 0 0 1 ∷ propagate_barrier 0 1 ∷ []) ∷
    -- a write by another thread before it counts
    refuses 3 2 3 1 (0 ∷ []) (accept_write 0 0 1 ∷ propagate_write 0 1 ∷ accept_barrier 1 1 ∷ propagate_barrier 0 2 ∷ []) ∷
    -- a coherence successor of it is there
    accepts 2 1 (0 ∷ []) (accept_write 0 0 1 ∷ accept_barrier 0 1 ∷ accept_write 1 0 2 ∷ commit 0 1 ∷ propagate_barrier 0 1 ∷ []) ∷
    -- not yet a successor
    refuses 3 2 2 1 (0 ∷ []) (accept_write 0 0 1 ∷ accept_barrier 0 1 ∷ accept_write 1 0 2 ∷ propagate_barrier 0 1 ∷ []) ∷
    -- a predecessor is not enough
    refuses 4 2 2 1 (0 ∷ []) (accept_write 0 0 1 ∷ accept_barrier 0 1 ∷ accept_write 1 0 2 ∷ commit 1 0 ∷ propagate_barrier 0 1 ∷ []) ∷
    -- of two writes one is not there
    refuses 4 2 2 2 (0 ∷ 0 ∷ []) (accept_write 0 0 1 ∷ accept_write 0 1 1 ∷ accept_barrier 0 1 ∷ propagate_write 0 1 ∷ propagate_barrier 0 1 ∷ []) ∷
    refuses 4 2 2 2 (0 ∷ 0 ∷ []) (accept_write 0 0 1 ∷ accept_write 0 1 1 ∷ accept_barrier 0 1 ∷ propagate_write 1 1 ∷ propagate_barrier 0 1 ∷ []) ∷
    -- a barrier before a barrier does not matter
    accepts 2 1 (0 ∷ []) (accept_barrier 0 1 ∷ accept_barrier 0 1 ∷ propagate_barrier 1 1 ∷ []) ∷
    -- commit: two addresses
    refuses 2 1 2 2 (0 ∷ 0 ∷ []) (accept_write 0 0 1 ∷ accept_write 1 1 2 ∷ commit 0 1 ∷ []) ∷
    -- two addresses, and a cycle: the first of the two
    refuses 3 1 1 2 (0 ∷ 0 ∷ []) (accept_write 0 0 1 ∷ accept_barrier 0 1 ∷ accept_write 0 1 1 ∷ commit 1 0 ∷ []) ∷
    -- a write before itself
    refuses 1 3 2 1 (0 ∷ []) (accept_write 0 0 1 ∷ commit 0 0 ∷ []) ∷
    -- twice
    refuses 3 2 2 1 (0 ∷ []) (accept_write 0 0 1 ∷ accept_write 1 0 2 ∷ commit 0 1 ∷ commit 0 1 ∷ []) ∷
    -- back
    refuses 3 2 2 1 (0 ∷ []) (accept_write 0 0 1 ∷ accept_write 1 0 2 ∷ commit 0 1 ∷ commit 1 0 ∷ []) ∷
    -- kind 5 closes by transitivity: through the edge on both sides
    refuses 7 2 4 1 (0 ∷ []) (accept_write 0 0 1 ∷ accept_write 1 0 2 ∷ accept_write 2 0 3 ∷ accept_write 3 0 4 ∷ commit 0 1 ∷ commit 2 3 ∷ commit 1 2 ∷ commit 0 3 ∷ []) ∷
    -- so that the last of them may go to the thread of the first
    accepts 4 1 (0 ∷ []) (accept_write 0 0 1 ∷ accept_write 1 0 2 ∷ accept_write 2 0 3 ∷ accept_write 3 0 4 ∷ commit 0 1 ∷ commit 2 3 ∷ commit 1 2 ∷ propagate_write 3 0 ∷ []) ∷
    -- kind 1 closes by transitivity: a write comes after those before the ones in the list of its thread
    refuses 5 2 3 1 (0 ∷ []) (accept_write 0 0 1 ∷ accept_write 1 0 2 ∷ commit 0 1 ∷ propagate_write 1 2 ∷ accept_write 2 0 3 ∷ commit 0 2 ∷ []) ∷
    -- so that it may go to a thread that has such a write
    accepts 3 1 (0 ∷ []) (accept_write 0 0 1 ∷ accept_write 1 0 2 ∷ commit 0 1 ∷ propagate_write 1 2 ∷ accept_write 2 0 3 ∷ propagate_write 2 0 ∷ []) ∷
    -- no cycle: a write by another thread before the barrier, in the list of the second write's thread
    refuses 8 3 3 2 (0 ∷ 0 ∷ []) (accept_write 0 0 1 ∷ propagate_write 0 1 ∷ accept_barrier 1 1 ∷ accept_write 1 1 2 ∷ accept_write 2 1 1 ∷ accept_barrier 2 1 ∷ accept_write 2 0 2 ∷ commit 3 0 ∷ commit 1 2 ∷ []) ∷
    -- a barrier of another thread separates
    refuses 8 3 3 2 (0 ∷ 0 ∷ []) (accept_barrier 2 1 ∷ accept_write 0 0 1 ∷ propagate_barrier 0 0 ∷ accept_write 0 1 2 ∷ accept_write 1 1 1 ∷ propagate_barrier 0 1 ∷ accept_write 1 0 2 ∷ commit 3 0 ∷ commit 1 2 ∷ []) ∷
    -- a barrier before both does not
    accepts 2 2 (0 ∷ 0 ∷ []) (accept_barrier 0 1 ∷ accept_write 0 0 1 ∷ accept_write 0 1 2 ∷ accept_barrier 1 1 ∷ accept_write 1 1 1 ∷ accept_write 1 0 2 ∷ commit 3 0 ∷ commit 1 2 ∷ []) ∷
    -- nor one behind both
    accepts 2 2 (0 ∷ 0 ∷ []) (accept_write 0 0 1 ∷ accept_write 0 1 2 ∷ accept_barrier 0 1 ∷ accept_write 1 1 1 ∷ accept_write 1 0 2 ∷ accept_barrier 1 1 ∷ commit 3 0 ∷ commit 1 2 ∷ []) ∷
    -- nor one that separates them in the list of another thread than the second write's
    accepts 3 2 (0 ∷ 0 ∷ []) (accept_write 0 0 1 ∷ accept_write 0 1 2 ∷ propagate_write 0 2 ∷ accept_barrier 2 1 ∷ propagate_write 1 2 ∷ accept_write 1 1 1 ∷ accept_barrier 1 1 ∷ accept_write 1 0 2 ∷ commit 3 0 ∷ commit 1 2 ∷ []) ∷
    -- read response: the initial value
    accepts 2 2 (5 ∷ 7 ∷ []) (respond 1 1 7 ∷ []) ∷
    -- another value
    refuses 0 1 2 2 (5 ∷ 7 ∷ []) (respond 1 1 5 ∷ []) ∷
    -- the most recent write, not the first
    accepts 1 1 (0 ∷ []) (accept_write 0 0 1 ∷ accept_write 0 0 2 ∷ respond 0 0 2 ∷ []) ∷
    -- not the last by number: the last in the list
    accepts 2 1 (0 ∷ []) (accept_write 0 0 1 ∷ accept_write 1 0 2 ∷ commit 1 0 ∷ propagate_write 0 1 ∷ respond 1 0 1 ∷ []) ∷
    -- an older one
    refuses 2 1 1 1 (0 ∷ []) (accept_write 0 0 1 ∷ accept_write 0 0 2 ∷ respond 0 0 1 ∷ []) ∷
    -- one to another address
    refuses 2 1 1 2 (0 ∷ 0 ∷ []) (accept_write 0 0 1 ∷ accept_write 0 1 2 ∷ respond 0 0 2 ∷ []) ∷
    -- one that has not been propagated there
    refuses 1 1 2 1 (0 ∷ []) (accept_write 0 0 1 ∷ respond 1 0 1 ∷ []) ∷
    -- the initial value where a write has been
    refuses 2 1 2 1 (0 ∷ []) (accept_write 0 0 1 ∷ propagate_write 0 1 ∷ respond 1 0 0 ∷ []) ∷
    -- the greatest value
    accepts 1 1 (0 ∷ []) (accept_write 0 0 4294967295 ∷ respond 0 0 4294967295 ∷ []) ∷
    -- acknowledge: not at every thread
    refuses 2 2 3 1 (0 ∷ []) (accept_barrier 0 0 ∷ propagate_barrier 0 1 ∷ acknowledge 0 ∷ []) ∷
    -- at every thread
    accepts 3 1 (0 ∷ []) (accept_barrier 0 0 ∷ propagate_barrier 0 1 ∷ propagate_barrier 0 2 ∷ acknowledge 0 ∷ []) ∷
    -- a coherence successor is there instead of the Group A write
    accepts 2 1 (0 ∷ []) (accept_write 0 0 1 ∷ accept_barrier 0 0 ∷ accept_write 1 0 2 ∷ commit 0 1 ∷ propagate_barrier 0 1 ∷ acknowledge 0 ∷ []) ∷
    -- an lwsync
    refuses 1 1 1 1 (0 ∷ []) (accept_barrier 0 1 ∷ acknowledge 0 ∷ []) ∷
    -- one that is not at every thread either: the first of the two
    refuses 1 1 2 1 (0 ∷ []) (accept_barrier 0 1 ∷ acknowledge 0 ∷ []) ∷
    -- a sync again
    refuses 2 1 1 1 (0 ∷ []) (accept_barrier 0 0 ∷ acknowledge 0 ∷ acknowledge 0 ∷ []) ∷
    -- another sync
    accepts 1 1 (0 ∷ []) (accept_barrier 0 0 ∷ accept_barrier 0 0 ∷ acknowledge 1 ∷ acknowledge 0 ∷ []) ∷
    -- no steps
    accepts 4 4 (0 ∷ 0 ∷ 0 ∷ 0 ∷ []) ([]) ∷
    -- two steps that are not enabled: the first
    refuses 1 1 1 1 (0 ∷ []) (accept_write 0 0 1 ∷ respond 0 0 2 ∷ respond 0 0 3 ∷ []) ∷
    []

-- i times the bytes
unfoldable pub repeated : ℕ → List ℕ → List ℕ
repeated zero bs = []
repeated (suc i) bs = bs ++ repeated i bs

-- n, m, initial values and the step count come first
unfoldable pub layout_cases : List Row
layout_cases =
    -- nothing; what is missing behind each field
    reads 1 0 0 [] ∷
    reads 1 1 0 (1 ∷ []) ∷
    reads 1 2 0 (1 ∷ 1 ∷ []) ∷
    reads 1 3 0 (1 ∷ 1 ∷ 0 ∷ []) ∷
    reads 1 4 0 (1 ∷ 1 ∷ 0 ∷ 1 ∷ []) ∷
    reads 1 5 0 (1 ∷ 1 ∷ 0 ∷ 1 ∷ 1 ∷ []) ∷
    reads 1 6 0 (1 ∷ 1 ∷ 0 ∷ 1 ∷ 1 ∷ 0 ∷ []) ∷
    reads 1 7 0 (1 ∷ 1 ∷ 0 ∷ 1 ∷ 1 ∷ 0 ∷ 0 ∷ []) ∷
    -- whole, and bytes behind it are not read
    reads 0 0 8 (1 ∷ 1 ∷ 0 ∷ 1 ∷ 1 ∷ 0 ∷ 0 ∷ 9 ∷ []) ∷
    reads 0 0 8 (1 ∷ 1 ∷ 0 ∷ 1 ∷ 1 ∷ 0 ∷ 0 ∷ 9 ∷ 128 ∷ []) ∷
    -- n and m out of range
    reads 3 0 0 (0 ∷ 1 ∷ 0 ∷ 0 ∷ []) ∷
    reads 3 0 0 (5 ∷ 1 ∷ 0 ∷ 0 ∷ []) ∷
    reads 3 1 0 (1 ∷ 0 ∷ 0 ∷ 0 ∷ []) ∷
    reads 3 1 0 (1 ∷ 5 ∷ 0 ∷ 0 ∷ []) ∷
    -- values: the greatest, one more, too long, not the shortest form
    reads 0 0 8 (1 ∷ 1 ∷ 255 ∷ 255 ∷ 255 ∷ 255 ∷ 15 ∷ 0 ∷ []) ∷
    reads 3 2 0 (1 ∷ 1 ∷ 128 ∷ 128 ∷ 128 ∷ 128 ∷ 16 ∷ 0 ∷ []) ∷
    reads 2 2 0 (1 ∷ 1 ∷ 128 ∷ 128 ∷ 128 ∷ 128 ∷ 128 ∷ []) ∷
    reads 2 2 0 (1 ∷ 1 ∷ 128 ∷ 0 ∷ 0 ∷ []) ∷
    reads 1 2 0 (1 ∷ 1 ∷ 128 ∷ 128 ∷ 128 ∷ []) ∷
    -- 128 steps, and 129
    reads 0 0 517 ((1 ∷ 1 ∷ 0 ∷ 128 ∷ 1 ∷ []) ++ repeated 128 (6 ∷ 0 ∷ 0 ∷ 0 ∷ [])) ∷
    reads 3 3 0 ((1 ∷ 1 ∷ 0 ∷ 129 ∷ 1 ∷ []) ++ repeated 129 (6 ∷ 0 ∷ 0 ∷ 0 ∷ [])) ∷
    -- kinds 0 and 8
    reads 3 4 0 (1 ∷ 1 ∷ 0 ∷ 1 ∷ 0 ∷ 0 ∷ 0 ∷ []) ∷
    reads 3 4 0 (1 ∷ 1 ∷ 0 ∷ 1 ∷ 8 ∷ 0 ∷ 0 ∷ []) ∷
    -- threads, addresses, classes
    reads 3 5 0 (1 ∷ 1 ∷ 0 ∷ 1 ∷ 1 ∷ 1 ∷ 0 ∷ 0 ∷ []) ∷
    reads 3 6 0 (1 ∷ 1 ∷ 0 ∷ 1 ∷ 1 ∷ 0 ∷ 1 ∷ 0 ∷ []) ∷
    reads 3 5 0 (1 ∷ 1 ∷ 0 ∷ 1 ∷ 2 ∷ 1 ∷ 0 ∷ []) ∷
    reads 3 6 0 (1 ∷ 1 ∷ 0 ∷ 1 ∷ 2 ∷ 0 ∷ 2 ∷ []) ∷
    reads 3 5 0 (1 ∷ 1 ∷ 0 ∷ 1 ∷ 6 ∷ 1 ∷ 0 ∷ 0 ∷ []) ∷
    reads 3 6 0 (1 ∷ 1 ∷ 0 ∷ 1 ∷ 6 ∷ 0 ∷ 1 ∷ 0 ∷ []) ∷
    -- numbers naming none: no write, no barrier; one write, one barrier
    reads 3 5 0 (1 ∷ 1 ∷ 0 ∷ 1 ∷ 3 ∷ 0 ∷ 0 ∷ []) ∷
    reads 3 5 0 (1 ∷ 1 ∷ 0 ∷ 1 ∷ 4 ∷ 0 ∷ 0 ∷ []) ∷
    reads 3 5 0 (1 ∷ 1 ∷ 0 ∷ 1 ∷ 5 ∷ 0 ∷ 0 ∷ []) ∷
    reads 3 5 0 (1 ∷ 1 ∷ 0 ∷ 1 ∷ 7 ∷ 0 ∷ []) ∷
    reads 3 9 0 (1 ∷ 1 ∷ 0 ∷ 2 ∷ 1 ∷ 0 ∷ 0 ∷ 9 ∷ 3 ∷ 1 ∷ 0 ∷ []) ∷
    reads 3 10 0 (1 ∷ 1 ∷ 0 ∷ 2 ∷ 1 ∷ 0 ∷ 0 ∷ 9 ∷ 5 ∷ 0 ∷ 1 ∷ []) ∷
    reads 3 10 0 (1 ∷ 1 ∷ 0 ∷ 2 ∷ 1 ∷ 0 ∷ 0 ∷ 9 ∷ 3 ∷ 0 ∷ 1 ∷ []) ∷
    reads 3 9 0 (1 ∷ 1 ∷ 0 ∷ 2 ∷ 1 ∷ 0 ∷ 0 ∷ 9 ∷ 7 ∷ 0 ∷ []) ∷
    reads 3 8 0 (1 ∷ 1 ∷ 0 ∷ 2 ∷ 2 ∷ 0 ∷ 0 ∷ 7 ∷ 1 ∷ []) ∷
    reads 3 8 0 (1 ∷ 1 ∷ 0 ∷ 2 ∷ 2 ∷ 0 ∷ 0 ∷ 4 ∷ 1 ∷ 0 ∷ []) ∷
    reads 3 9 0 (1 ∷ 1 ∷ 0 ∷ 2 ∷ 2 ∷ 0 ∷ 0 ∷ 4 ∷ 0 ∷ 1 ∷ []) ∷
    reads 3 9 0 (1 ∷ 1 ∷ 0 ∷ 2 ∷ 1 ∷ 0 ∷ 0 ∷ 9 ∷ 5 ∷ 1 ∷ 0 ∷ []) ∷
    -- a value above the greatest
    reads 3 7 0 (1 ∷ 1 ∷ 0 ∷ 1 ∷ 1 ∷ 0 ∷ 0 ∷ 128 ∷ 128 ∷ 128 ∷ 128 ∷ 16 ∷ []) ∷
    reads 3 7 0 (1 ∷ 1 ∷ 0 ∷ 1 ∷ 6 ∷ 0 ∷ 0 ∷ 128 ∷ 128 ∷ 128 ∷ 128 ∷ 16 ∷ []) ∷
    -- a write that is accepted later names none yet
    reads 3 5 0 (2 ∷ 1 ∷ 0 ∷ 2 ∷ 3 ∷ 0 ∷ 1 ∷ 1 ∷ 0 ∷ 0 ∷ 9 ∷ []) ∷
    -- a number's form comes before its range
    reads 2 5 0 (1 ∷ 1 ∷ 0 ∷ 1 ∷ 7 ∷ 128 ∷ 0 ∷ []) ∷
    -- sixteen writes, and a seventeenth: 3 at its kind, whatever its fields are
    reads 0 0 68 ((1 ∷ 1 ∷ 0 ∷ 16 ∷ []) ++ repeated 16 (1 ∷ 0 ∷ 0 ∷ 9 ∷ [])) ∷
    reads 3 68 0 ((1 ∷ 1 ∷ 0 ∷ 17 ∷ []) ++ repeated 17 (1 ∷ 0 ∷ 0 ∷ 9 ∷ [])) ∷
    reads 3 68 0 ((1 ∷ 1 ∷ 0 ∷ 17 ∷ []) ++ repeated 16 (1 ∷ 0 ∷ 0 ∷ 9 ∷ []) ++ (1 ∷ [])) ∷
    -- eight barriers, and a ninth
    reads 0 0 28 ((1 ∷ 1 ∷ 0 ∷ 8 ∷ []) ++ repeated 8 (2 ∷ 0 ∷ 0 ∷ [])) ∷
    reads 3 28 0 ((1 ∷ 1 ∷ 0 ∷ 9 ∷ []) ++ repeated 9 (2 ∷ 0 ∷ 1 ∷ [])) ∷
    -- sixteen writes do not keep a barrier out
    reads 0 0 71 ((1 ∷ 1 ∷ 0 ∷ 17 ∷ []) ++ repeated 16 (1 ∷ 0 ∷ 0 ∷ 9 ∷ []) ++ (2 ∷ 0 ∷ 0 ∷ [])) ∷
    -- all is read before a step is judged
    reads 3 8 0 (1 ∷ 1 ∷ 0 ∷ 2 ∷ 6 ∷ 0 ∷ 0 ∷ 1 ∷ 9 ∷ []) ∷
    []

unfoldable pub worked : List Row → Bool
worked rows = every holds rows

abbrev pub traces : List Row
traces = simple_cases ++ (coherence_cases ++ (condition_cases ++ layout_cases))
