-- A log that comes in pieces: 02 (iii): "Judge them as they come", "however the input was cut".
-- Assumes nothing.
use Rattle.std.specs.Prelude.{ℕ, zero, suc, ◌+◌, ◌-◌, Bool, true, false, not, cond, ◌||◌, List, [], ◌∷◌, ◌++◌, eqb, leb, length, drop}
use Rattle.number.specs.Reader.{Out, stop, next}
use Rattle.model.specs.Case.{Case}
use Rattle.model.specs.Rules.{PPCs, verdict}
use Rattle.model.specs.Record.{read}
use Rattle.tally.specs.declared.Tally.{Tally}
use Rattle.tally.specs.Tally.{grown, may_grow}
use Rattle.log_model.specs.Log.{Ending, no_fault, count_full, log_from, Summary, log_tallied}

-- why judging records one after the other stopped: the bytes behind the last are refused, at that place; or a count is full
pub data Stop : Type 0 where
  refused : (number place : ℕ) → Stop
  full : Stop

-- records judged one after the other: the bytes that they took, the tally with them, and why no further one was judged
pub record Run : Type 0 where
  pub judged : ℕ
  pub tally : Tally
  pub why : Stop

-- by what reading answers at the place at of the bytes
abbrev pub on_reading : (at : ℕ) → Tally → (behind : ℕ → Tally → Run) → Out Case → Run
on_reading at t behind (stop x p) = record { judged = at; tally = t; why = refused x (at + p) }
on_reading at t behind (next c i) =
    cond (may_grow t (verdict c PPCs)) (behind (at + i) (grown t (verdict c PPCs))) (record { judged = at; tally = t; why = full })

-- the same by as much fuel as bytes are left, since no record is empty; of no bytes reading answers 1
unfoldable pub run_by : (fuel at : ℕ) → List ℕ → Tally → Run
run_by zero at s t = record { judged = at; tally = t; why = refused 1 at }
run_by (suc j) at s t = on_reading at t (λ i t'. run_by j i s t') (read (drop at s))

-- the records of s from the place at on
unfoldable pub run_from : (at : ℕ) → List ℕ → Tally → Run
run_from at s t = run_by (length s - at) at s t

-- the records of s
abbrev pub run : List ℕ → Tally → Run
run = run_from 0

-- under 1 the bytes end inside a record or between two, and further ones may mend that
abbrev pub waits : Stop → Bool
waits (refused x p) = eqb x 1
waits full = false

-- how a log ends in bytes that begin at the place from
abbrev pub ending_at : (from : ℕ) → Stop → Ending
ending_at from (refused x p) = record { number = x; place = from + p }
ending_at from full = count_full

-- what a call answers that judges the records of some bytes: whether the log has ended, and how, with its place from the log's start;
-- the bytes of the records that were judged; the tally with them
pub record Answer : Type 0 where
  pub ended : Bool
  pub ending : Ending
  pub judged : ℕ
  pub tally : Tally

-- of size bytes that begin at the place from of the log, and are its last or not: a log ends with its bytes, or before where a record is
-- refused otherwise than by 1, or a count is full; "an end between records is no fault"
abbrev pub answer : (from : ℕ) (last : Bool) (size : ℕ) → Run → Answer
answer from last size r =
    let ended = last || not (waits r.why) in
    record {
      ended = ended;
      ending = cond ended (cond (leb size r.judged) no_fault (ending_at from r.why)) no_fault;
      judged = r.judged;
      tally = r.tally;
    }

-- the records of the bytes s, added to the tally t
unfoldable pub judge_log : (from : ℕ) (last : Bool) → List ℕ → Tally → Answer
judge_log from last s t = answer from last (length s) (run s t)

-- between two pieces: the bytes that were not judged yet, their place from the log's start, and the tally so far; or the log has ended
pub data Fed : Type 0 where
  going : (kept : List ℕ) (place : ℕ) (tally : Tally) → Fed
  over : Summary → Fed

-- nothing came yet
abbrev pub begun : Tally → Fed
begun t = going [] 0 t

-- the bytes that have to be kept
abbrev pub kept : Fed → List ℕ
kept (going s place t) = s
kept (over r) = []

-- after a call on the bytes s, which begin at that place
abbrev pub following : (place : ℕ) → List ℕ → Answer → Fed
following place s a =
    cond a.ended (over (record { tally = a.tally; ending = a.ending })) (going (drop a.judged s) (place + a.judged) a.tally)

-- a further piece: what was kept and the piece are judged together; once the log has ended, nothing changes
unfoldable pub feed : Fed → (piece : List ℕ) → Fed
feed (over r) piece = over r
feed (going s place t) piece = following place (s ++ piece) (judge_log place false (s ++ piece) t)

-- one piece after the other
unfoldable pub feed_all : Fed → (pieces : List (List ℕ)) → Fed
feed_all f [] = f
feed_all f (piece ∷ pieces) = feed_all (feed f piece) pieces

-- the end of the input: what was kept is the last of it
unfoldable pub finish : Fed → Summary
finish (over r) = r
finish (going s place t) = let a = judge_log place true s t in record { tally = a.tally; ending = a.ending }

-- what the log comes to that was fed as far as f, where the rest is to come
abbrev pub completed : Fed → (rest : List ℕ) → Summary
completed (over r) rest = r
completed (going s place t) rest = log_tallied t (log_from place (s ++ rest))

-- the bytes of all pieces
unfoldable pub joined : (pieces : List (List ℕ)) → List ℕ
joined [] = []
joined (piece ∷ pieces) = piece ++ joined pieces
