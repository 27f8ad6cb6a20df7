-- The model's answers as the structs that callers get.
-- Assumes nothing.
use Rattle.std.specs.Prelude.{ℕ, zero, suc, ◌<◌, ◌≡◌, List, take, drop, replicate, Result, Ok, Err, MatchResult}
use Rattle.number.specs.Reader.{Out, stop, next}
use Rattle.model.specs.Case.{Case}
use Rattle.model.specs.Record.{read}
use Rattle.model.specs.Answers.{done, answer_of, name_part, under_model, renumber_record}
use Rattle.case.specs.declared.Case.{Case as Held}
use Rattle.case.specs.Held.{held, empty_case}
use Rattle.reader.specs.declared.Reading.{Reading}
use Rattle.rules.specs.declared.Model.{Model}
use Rattle.rules.specs.Models.{model_number}
use Rattle.answers.specs.declared.Refused.{Refused}
use Rattle.answers.specs.declared.Cause.TheVariants.{NoModel}
use Rattle.answers.specs.Shown.{shown, refusal_of}
use Rattle.litmus.specs.declared.CaseAnswer.{CaseAnswer}
use Rattle.litmus.specs.declared.Part.{Part}

-- 01: a case that is refused is the empty one
abbrev pub case_in : Out Case → Held
case_in (stop x p) = empty_case
case_in (next c i) = held c

-- the model with a number, or 7
abbrev pub ModelOf : ℕ → Result Model Refused → Type 0
ModelOf n r = MatchResult r (λ model. n ≡ model_number model) (λ e. (1 < n) × (e ≡ record { cause = NoModel; place = 0 }))

-- what the code answers where a case is given with the length of its record, or refused
abbrev pub case_given : Result Reading Refused → CaseAnswer
case_given (Ok r) = record { answer = shown (done r.length); case = r.case }
case_given (Err e) = record { answer = shown (refusal_of e); case = empty_case }

unfoldable pub case_shown : Out Case → CaseAnswer
case_shown o = record { answer = shown (answer_of o); case = case_in o }

abbrev pub part_shown : Out Case → Part
part_shown o = record { at = (name_part o).at; length = (name_part o).length }

-- the bytes that a part of s names
abbrev pub bytes_of : List ℕ → Part → List ℕ
bytes_of s p = take p.length (drop p.at s)

abbrev pub no_part : Part
no_part = record { at = 0; length = 0 }

-- where the name beside judging lies: no part under 7
unfoldable pub judged_part : (model : ℕ) → List ℕ → Part
judged_part model s = under_model model (λ w. part_shown (read s)) no_part

abbrev pub part_under : (number : ℕ) → List ℕ → Part
part_under zero s = part_shown (read s)
part_under (suc x) s = no_part

-- and beside renumbering into a buffer of size bytes: no part under 1 to 6 and 23
unfoldable pub renumbered_part : (q r : ℕ) → List ℕ → (size at : ℕ) → Part
renumbered_part q r s size at = part_under (renumber_record q r s (replicate size 0) at).answer.number s
