-- What a list of calls gives to a caller of this crate, by what the contracts of `read`, `judge`, `renumber`, `judge_case` and
-- `renumber_case` say: a call on a case is handed the struct that `read` gave of the record.
-- Assumes nothing.
use Rattle.std.specs.Prelude.{List, [], ◌∷◌, ◌++◌, ℕ}
use Rattle.model.specs.Record.{read}
use Rattle.model.specs.Answers.{judge, judge_case, renumber_record, renumber_case}
use Rattle.model.specs.Calls.{Call, judging, renumbering, judging_case, renumbering_case, Outcome, judged, renumbered, renumbered_case, following}
use Rattle.case.specs.declared.Case.{Case as Held}
use Rattle.case.specs.Held.{case_of}
use Rattle.answers.specs.declared.Answer.{Answer}
use Rattle.answers.specs.Shown.{shown}
use Rattle.litmus.specs.declared.CaseAnswer.{CaseAnswer}
use Rattle.litmus.specs.Shown.{case_in, case_shown}

-- what a call gives: its answer; of a renumbering also its buffer afterwards, or its case
pub data Result : Type 0 where
  answered : Answer → Result
  stored : Answer → (buffer : List ℕ) → Result
  held : CaseAnswer → Result

-- the struct that `read` gives
abbrev pub struct_of : List ℕ → Held
struct_of s = (case_shown (read s)).case

-- a call on the record s
abbrev pub result : List ℕ → Call → Result
result s (judging model behind) = answered (shown (judge model (s ++ behind)))
result s (renumbering q r behind buffer at) =
    stored (shown (renumber_record q r (s ++ behind) buffer at).answer) (renumber_record q r (s ++ behind) buffer at).buffer
result s (judging_case model) = answered (shown (judge_case model (case_of (struct_of s))))
result s (renumbering_case q r) = held (case_shown (renumber_case q r (case_of (struct_of s))))

-- what the calls give, each on the record as the last accepted renumbering wrote it
unfoldable pub results : List ℕ → List Call → List Result
results s [] = []
results s (x ∷ xs) = result s x ∷ results (following s x) xs

-- what the model's claim promises, as callers get it
abbrev pub as_result : Outcome → Result
as_result (judged w) = answered (shown w)
as_result (renumbered w accepted buffer) = stored (shown w) buffer
as_result (renumbered_case w o) = held (record { answer = shown w; case = case_in o })
