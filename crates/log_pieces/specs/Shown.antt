-- What the structs of the code mean, and how the model's answers are shown in them.
-- Assumes nothing.
use Rattle.std.specs.Prelude.{◌≡◌, ℕ, ◌+◌, ◌-◌, ◌%◌, ◌^◌, ◌≤◌, Bool, true, false, cond, List, length, take, drop, ◌==◌, Result, Ok, Err}
use Rattle.number.specs.Reader.{Out, stop, next, number_of as fault_number, refused as refusal}
use Rattle.number.specs.declared.Refusal.{Refusal}
use Rattle.model.specs.Limits.{most_edition}
use Rattle.model.specs.Bound.{most_bytes}
use Rattle.model.specs.Case.{Case}
use Rattle.model.specs.Rules.{PPCs, verdict}
use Rattle.model.specs.Record.{read}
use Rattle.tally.specs.declared.Tally.{Tally}
use Rattle.tally.specs.Tally.{adding}
use Rattle.log_model.specs.Pieces.{Stop, refused, full, Run, Answer, judge_log}
use Rattle.log_pieces.specs.declared.Verdict.{Verdict}
use Rattle.log_pieces.specs.declared.Stop.{Stop as Given}
use Rattle.log_pieces.specs.declared.Stop.TheVariants.{Refused, Full}
use Rattle.log_pieces.specs.declared.Stopped.{Stopped}
use Rattle.log_pieces.specs.declared.LogAnswer.{LogAnswer}
use Rattle.log_pieces.specs.declared.JudgedLog.{JudgedLog}

-- what is told of a record: its verdict under PPCs and its length; or its refusal and the place, with length 0
pub record Told : Type 0 where
  pub number : ℕ
  pub place : ℕ
  pub length : ℕ

-- by what reading it answers
unfoldable pub judged_of : Out Case → Told
judged_of (stop x p) = record { number = x; place = p; length = 0 }
judged_of (next c i) = record { number = verdict c PPCs; place = 0; length = i }

-- a record was read, and this is its verdict
pub record Accepted (o : Out Case) (v : Verdict) : Type 0 where
  pub c : Case
  pub is_read : o ≡ next c v.length
  pub number_is : v.number ≡ verdict c PPCs

-- what the code tells of a record
abbrev pub Judged : Out Case → Result Verdict Refusal → Type 0
Judged o (Ok v) = Accepted o v
Judged o (Err e) = o ≡ refusal e

-- how far the records of some bytes are judged: the bytes that they took, and whether there may be another behind them. If not, the
-- refusal of what lies there and its place, or 6 and 0 where a count is full; else 1, as if the bytes ended there
pub record Step : Type 0 where
  pub going : Bool
  pub judged : ℕ
  pub number : ℕ
  pub place : ℕ

-- a step, and the tally there
pub record Turn : Type 0 where
  pub step : Step
  pub tally : Tally

-- there may be another record at a place
abbrev pub going_at : ℕ → Step
going_at at = record { going = true; judged = at; number = 1; place = 0 }

abbrev pub begun : Step
begun = going_at 0

abbrev pub stop_at : (at number place : ℕ) → Step
stop_at at number place = record { going = false; judged = at; number = number; place = place }

-- behind the record at a place, whose adding was answered so
unfoldable pub step_of : (at : ℕ) → Told → (added : ℕ) → Step
step_of at j added =
    cond (j.length == 0) (stop_at at j.number (at + j.place))
    (cond (added == 0) (going_at (at + j.length)) (stop_at at 6 0))

-- the record behind a step is judged, and added
unfoldable pub next_turn : List ℕ → Step → Tally → Turn
next_turn s f t =
    let j = judged_of (read (drop f.judged s)) in
    let a = adding t j.number in
    record { step = step_of f.judged j a.number; tally = a.tally }

-- 6 is a full count, and no refusal of bytes
abbrev pub why_of : (number place : ℕ) → Stop
why_of number place = cond (number == 6) full (refused number place)

-- where judging has stopped
unfoldable pub run_of : Step → Tally → Run
run_of r t = record { judged = r.judged; tally = t; why = why_of r.number r.place }

-- why judging has stopped, as the number and the place of a step
abbrev pub number_of : Stop → ℕ
number_of (refused number place) = number
number_of full = 6

abbrev pub place_of : Stop → ℕ
place_of (refused number place) = place
place_of full = 0

-- why the code stops, in the model's terms
abbrev pub stop_of : Given → Stop
stop_of (Refused e) = refused (fault_number e.fault) e.place
stop_of Full = full

-- what the code tells of the record at a place: where the next one begins, or why there is none
abbrev pub step_told : (at : ℕ) → Result ℕ Given → Step
step_told at (Ok n) = going_at n
step_told at (Err why) = stop_at at (number_of (stop_of why)) (place_of (stop_of why))

abbrev pub stopped_shown : Stopped → Step
stopped_shown r = stop_at r.judged (number_of (stop_of r.why)) (place_of (stop_of r.why))

-- where judging has stopped, as a step
abbrev pub step_shown : Run → Step
step_shown r = stop_at r.judged (number_of r.why) (place_of r.why)

-- the model's answer as the struct that callers get. A place is a number of 64 bits, and is counted modulo 2 to the 64; that of a log
-- that is handed over from its start is below (`place-fits` of `log_model`)
abbrev pub answer_shown : Answer → LogAnswer
answer_shown a = record { number = a.ending.number; ended = a.ended; place = a.ending.place % 2 ^ 64; length = a.judged }

abbrev pub judged_shown : Answer → JudgedLog
judged_shown a = record { answer = answer_shown a; tally = a.tally }

-- whether the next record of s is judged: of the last bytes of a log all are. Where it is left for later, no more bytes are left than a
-- record may have
pub record GoesOn (s : List ℕ) (last : Bool) (f : Step) (y : Bool) : Type 0 where
  pub going : y ≡ true → f.going ≡ true
  pub whole : y ≡ false → last ≡ true → f.going ≡ false
  pub few : y ≡ false → f.going ≡ true → length s - f.judged ≤ most_bytes most_edition

-- what is answered of the bytes s of a log is what `judge_log` gives for their front up to some place; the last bytes of a log are judged
-- whole, and else no more are left than a record may have
pub record PartJudged (from : ℕ) (last : Bool) (s : List ℕ) (t : Tally) (r : JudgedLog) : Type 0 where
  pub upto : ℕ
  pub within : upto ≤ length s
  pub whole : last ≡ true → upto ≡ length s
  pub same : r ≡ judged_shown (judge_log from last (take upto s) t)
  pub few : r.answer.ended ≡ false → length s - r.answer.length ≤ most_bytes most_edition
