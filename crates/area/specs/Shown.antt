-- What the structs of the code mean, and what the functions below the public ones promise.
-- Assumes nothing.
use Rattle.std.specs.Prelude.{ℕ, ◌+◌, ◌≡◌, true, false, not, cond, List, leb, length, get_or, drop, set, Option, Some, None, Result, Ok, Err}
use Rattle.finite.specs.Lists.{every}
use Rattle.finite.specs.Tests.{tick}
use Rattle.model.specs.Answers.{Stored, done}
use Rattle.log_model.specs.Log.{no_fault}
use Rattle.answers.specs.declared.Answer.{Answer}
use Rattle.answers.specs.declared.Cause.{Cause}
use Rattle.answers.specs.declared.Refused.{Refused}
use Rattle.answers.specs.Shown.{shown, cause_number, refusal_of}
use Rattle.area_model.specs.Area.{unused, is_unused, Frame, finished, none, Found}
use Rattle.area.specs.declared.Frame.{Frame as Given}

-- what stands at a place of an area, as the struct that callers get: where a finished frame's record begins and how many bytes it has;
-- or how the log ends
abbrev pub frame_shown : (place : ℕ) → Frame → Given
frame_shown place (finished size) = record { number = 0; ended = false; place = 0; at = place + 1; length = size }
frame_shown place (none e) = record { number = e.number; ended = true; place = e.place; at = 0; length = 0 }

-- what the code tells of a frame: how many bytes its record has, that the log ends there, or the log's own fault
abbrev pub frame_told : Result (Option ℕ) Refused → Frame
frame_told (Ok (Some size)) = finished size
frame_told (Ok None) = none no_fault
frame_told (Err e) = none (record { number = cause_number e.cause; place = e.place })

abbrev pub sized : Result ℕ Refused → Result (Option ℕ) Refused
sized (Ok size) = Ok (Some size)
sized (Err e) = Err e

-- a log without fault ends there
pub record EndsAt (f : Found) (end : ℕ) : Type 0 where
  pub faultless : f.ending.number ≡ 0
  pub end_is : end ≡ f.end

-- how a log ends: where the free room starts, or its own fault
abbrev pub EndOf : Found → Result ℕ Refused → Type 0
EndOf f (Ok end) = EndsAt f end
EndOf f (Err e) = f.ending ≡ record { number = cause_number e.cause; place = e.place }

-- the answer of a call that makes stores
abbrev pub stores_given : Result ℕ Refused → Answer
stores_given (Ok stores) = shown (done stores)
stores_given (Err e) = shown (refusal_of e)

-- 0 where nothing is refused
abbrev pub refusal_number : Result (Unit {0}) Cause → ℕ
refusal_number (Ok u) = 0
refusal_number (Err cause) = cause_number cause

-- the number that `append_at` answers for a record of so many bytes
abbrev pub refusal_at : (end size : ℕ) → List ℕ → ℕ
refusal_at end size area = cond (leb (end + 1 + size) (length area)) (cond (every is_unused (drop end area)) 0 8) 6

-- the answer, and the area afterwards
pub record Answered (s : Stored) (r : Answer) (now : List ℕ) : Type 0 where
  pub answer : r ≡ shown s.answer
  pub area : now ≡ s.buffer

-- how many stores were made, and the area afterwards
pub record Made (s : Stored) (stores : ℕ) (now : List ℕ) : Type 0 where
  pub count : stores ≡ s.answer.length
  pub area : now ≡ s.buffer

-- one byte of a repair: a store if it isn't `FF`
pub record Cleared (s : List ℕ) (at stores : ℕ) (now : List ℕ) : Type 0 where
  pub count : stores ≡ tick (not (is_unused (get_or s at 0)))
  pub area : now ≡ set s at unused
