-- What each call answers, for all inputs (01, "When the desk says no").
-- Assumes nothing.
use Rattle.std.specs.Prelude.{ℕ, zero, suc, ◌-◌, Bool, cond, ◌&&◌, List, [], leb, length, take, drop, replicate}
use Rattle.number.specs.Number.{splice}
use Rattle.number.specs.Reader.{Out, stop, next}
use Rattle.model.specs.Limits.{most_addresses}
use Rattle.model.specs.Case.{Case}
use Rattle.model.specs.Rules.{Model, PPCw, PPCs, verdict, finals}
use Rattle.model.specs.Record.{read}
use Rattle.model.specs.Written.{record_of}
use Rattle.model.specs.Fault.{fault}
use Rattle.model.specs.Renumber.{renumber, fitting}

-- 01: "Fields not named in a row are 0, finals included". The place is 01's term for where a number starts in the bytes
pub record Answer : Type 0 where
  pub number : ℕ
  pub place : ℕ
  pub length : ℕ
  pub finals : List ℕ

abbrev pub no_finals : List ℕ
no_finals = replicate most_addresses 0

abbrev pub refusal : ℕ → ℕ → Answer
refusal x at = record { number = x; place = at; length = 0; finals = no_finals }

abbrev pub done : ℕ → Answer
done i = record { number = 0; place = 0; length = i; finals = no_finals }

abbrev pub answer_of : {A : Type 0} → Out A → Answer
answer_of (stop x p) = refusal x p
answer_of (next a i) = done i

-- a case without fault is as one that was read; else its fault with place 0
abbrev pub faultless : {A : Type 0} → ℕ → Out A → Out A
faultless zero o = o
faultless (suc x) o = stop (suc x) 0

-- a case handed without bytes: the length is that of its record
unfoldable pub handed : Case → Out Case
handed c = faultless (fault c) (next c (length (record_of c)))

-- Writing and renumbering into a lent buffer: the answer, and the buffer's whole content afterwards
pub record Stored : Type 0 where
  pub answer : Answer
  pub buffer : List ℕ

-- the place is not past the end of as many bytes, and at least size bytes are left from there
abbrev pub room_in : (size bytes at : ℕ) → Bool
room_in size bytes at = leb at bytes && leb size (bytes - at)

abbrev pub room : ℕ → List ℕ → ℕ → Bool
room size buffer at = room_in size (length buffer) at

-- bytes w from a place onward, or 6; 01: "bytes before and after it stay. Any refusal leaves the buffer untouched"
unfoldable pub put : List ℕ → List ℕ → ℕ → Stored
put w buffer at =
    cond (room (length w) buffer at) (record { answer = done (length w); buffer = splice buffer at w }) (record { answer = refusal 6 0; buffer = buffer })

abbrev pub put_out : Out Case → List ℕ → ℕ → Stored
put_out (stop x p) buffer at = record { answer = refusal x p; buffer = buffer }
put_out (next c i) buffer at = put (record_of c) buffer at

unfoldable pub write : Case → List ℕ → ℕ → Stored
write c buffer at = put_out (handed c) buffer at

-- Judging. By the verdict v of a case whose record is i bytes long
abbrev pub judgement : Case → ℕ → ℕ → Answer
judgement c i zero = record { number = 0; place = 0; length = i; finals = finals c }
judgement c i (suc v) = record { number = suc v; place = 0; length = i; finals = no_finals }

abbrev pub judge_out : Model → Out Case → Answer
judge_out w (stop x p) = refusal x p
judge_out w (next c i) = judgement c i (verdict c w)

-- 01: "Order: model, then the bytes"; 7 where the model is not 0 or 1
abbrev pub under_model : {A : Type 0} → ℕ → (Model → A) → A → A
under_model zero f else = f PPCw
under_model (suc zero) f else = f PPCs
under_model (suc (suc x)) f else = else

unfoldable pub judge : (model : ℕ) → List ℕ → Answer
judge model s = under_model model (λ w. judge_out w (read s)) (refusal 7 0)

unfoldable pub judge_case : (model : ℕ) → Case → Answer
judge_case model c = under_model model (λ w. judge_out w (handed c)) (refusal 7 0)

-- Renumbering: the record's refusals, then 5. The length is that of the renumbered case's record
abbrev pub renumber_out : (q r : ℕ) → Out Case → Out Case
renumber_out q r (stop x p) = stop x p
renumber_out q r (next c i) = cond (fitting q r c) (next (renumber q r c) (length (record_of (renumber q r c)))) (stop 5 0)

unfoldable pub renumber_record : (q r : ℕ) → List ℕ → List ℕ → ℕ → Stored
renumber_record q r s buffer at = put_out (renumber_out q r (read s)) buffer at

unfoldable pub renumber_case : (q r : ℕ) → Case → Out Case
renumber_case q r c = renumber_out q r (handed c)

-- The name: 01: "handed back as the record's own bytes, or as an empty part under 1 to 7"; 02 (xi): under 23 "no name": where it
-- stands in the record
pub record Part : Type 0 where
  pub at : ℕ
  pub length : ℕ

abbrev pub name_part : Out Case → Part
name_part (stop x p) = record { at = 0; length = 0 }
name_part (next c i) = record { at = i - length c.name; length = length c.name }

abbrev pub part : List ℕ → Part → List ℕ
part s p = take p.length (drop p.at s)

unfoldable pub name : List ℕ → List ℕ
name s = part s (name_part (read s))

-- beside judging: none under 7
unfoldable pub judged_name : (model : ℕ) → List ℕ → List ℕ
judged_name model s = under_model model (λ w. name s) []

abbrev pub name_under : (number : ℕ) → List ℕ → List ℕ
name_under zero s = name s
name_under (suc x) s = []

-- beside renumbering into a buffer of size bytes: none under 1 to 6 and 23
unfoldable pub renumbered_name : (q r : ℕ) → List ℕ → (size at : ℕ) → List ℕ
renumbered_name q r s size at = name_under (renumber_record q r s (replicate size 0) at).answer.number s
