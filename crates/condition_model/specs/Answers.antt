-- What the calls about conditions answer (02 (x)).
-- Assumes nothing.
use Rattle.std.specs.Prelude.{ℕ, zero, suc, Bool, false, List}
use Rattle.number.specs.Reader.{Out, stop, next}
use Rattle.model.specs.Case.{Case}
use Rattle.model.specs.Rules.{Model, verdict}
use Rattle.model.specs.Record.{read}
use Rattle.model.specs.Answers.{Answer, refusal, handed, judgement, under_model}
use Rattle.model.specs.Calls.{moved_answer}
use Rattle.condition_model.specs.Grammar.{Condition}
use Rattle.condition_model.specs.Reader.{read_text}
use Rattle.condition_model.specs.Truth.{truth, ranges}

-- an answer, and whether the condition holds: false under any number but 0
pub record ConditionAnswer : Type 0 where
  pub answer : Answer
  pub holds : Bool

abbrev pub without : Answer → ConditionAnswer
without a = record { answer = a; holds = false }

-- of an accepted case, which judging answers with a: the text's fault, or a and the truth
abbrev pub by_text : Case → Answer → Out Condition → ConditionAnswer
by_text c a (stop x p) = without (refusal x p)
by_text c a (next t p) = record { answer = a; holds = truth c t }

-- by the verdict: 02 (x): "A case that isn't accepted returns its own number first"
abbrev pub by_verdict : Case → Answer → ℕ → Out Condition → ConditionAnswer
by_verdict c a zero o = by_text c a o
by_verdict c a (suc v) o = without a

abbrev pub condition_out : Model → List ℕ → Out Case → ConditionAnswer
condition_out w text (stop x p) = without (refusal x p)
condition_out w text (next c i) = by_verdict c (judgement c i (verdict c w)) (verdict c w) (read_text (ranges c) text)

-- of a record
unfoldable pub condition : (model : ℕ) → List ℕ → (text : List ℕ) → ConditionAnswer
condition model s text = under_model model (λ w. condition_out w text (read s)) (without (refusal 7 0))

-- of a case that is handed without bytes
unfoldable pub condition_case : (model : ℕ) → Case → (text : List ℕ) → ConditionAnswer
condition_case model c text = under_model model (λ w. condition_out w text (handed c)) (without (refusal 7 0))

-- the answer whose finals stand where the permutation A sends their addresses, and the same truth
abbrev pub moved_condition : (A : ℕ) → ConditionAnswer → ConditionAnswer
moved_condition A w = record { answer = moved_answer A w.answer; holds = w.holds }
