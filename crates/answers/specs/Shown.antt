-- The model's answer as the struct that callers get, and what the code answers where a call may be refused.
-- Assumes nothing.
use Rattle.std.specs.Prelude.{ℕ, Result, Ok, Err}
use Rattle.number.specs.Reader.{number_of}
use Rattle.model.specs.Answers.{Answer, refusal}
use Rattle.answers.specs.declared.Answer.{Answer as Given}
use Rattle.answers.specs.declared.Refused.{Refused}
use Rattle.answers.specs.declared.Cause.{Cause}
use Rattle.answers.specs.declared.Cause.TheVariants.{Fault, NoFit, NoRoom, NoModel, Unrepaired, BadFlag}

abbrev pub shown : Answer → Given
shown a = record { number = a.number; place = a.place; length = a.length; finals = a.finals }

-- 01, 02: the number of a refusal
abbrev pub cause_number : Cause → ℕ
cause_number (Fault f) = number_of f
cause_number NoFit = 5
cause_number NoRoom = 6
cause_number NoModel = 7
cause_number Unrepaired = 8
cause_number BadFlag = 9

abbrev pub refusal_of : Refused → Answer
refusal_of e = refusal (cause_number e.cause) e.place

-- the answer of a call that may be refused
abbrev pub given : Result Given Refused → Given
given (Ok a) = a
given (Err e) = shown (refusal_of e)
