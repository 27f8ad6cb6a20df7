-- The model's answers about conditions as the struct that callers get.
-- Assumes nothing.
use Rattle.std.specs.Prelude.{ℕ, Bool, false, List, get_or, Result, Ok, Err}
use Rattle.finite.specs.Lists.{table}
use Rattle.finite.specs.Tests.{tick}
use Rattle.number.specs.Reader.{Out, stop, next}
use Rattle.model.specs.Answers.{refusal}
use Rattle.answers.specs.declared.Answer.{Answer}
use Rattle.answers.specs.declared.Refused.{Refused}
use Rattle.answers.specs.Shown.{shown, refusal_of}
use Rattle.condition_model.specs.Reader.{read_text}
use Rattle.condition_model.specs.Truth.{truth_c}
use Rattle.condition_model.specs.Answers.{ConditionAnswer, without}
use Rattle.condition_reader.specs.Told.{map_out, value_in, held_ranges}
use Rattle.condition.specs.declared.ConditionAnswer.{ConditionAnswer as Given}

-- an answer, and a number beside it
abbrev pub shown_beside : Answer → ℕ → Given
shown_beside a n = record { number = a.number; place = a.place; length = a.length; finals = a.finals; holds = n }

-- 1 where the condition holds, else 0
abbrev pub shown_with : Answer → Bool → Given
shown_with a b = shown_beside a (tick b)

abbrev pub condition_shown : ConditionAnswer → Given
condition_shown w = shown_with (shown w.answer) w.holds

-- the answer of a call that may be refused
abbrev pub condition_given : Result Given Refused → Given
condition_given (Ok w) = w
condition_given (Err e) = condition_shown (without (refusal_of e))

-- of an accepted case, by the truth of its text or the text's fault
abbrev pub shown_by : Answer → Out Bool → Given
shown_by a (stop x p) = shown_with (shown (refusal x p)) false
shown_by a (next b p) = shown_with a b

-- the first k places of an array
abbrev pub firsts : (k : ℕ) → List ℕ → List ℕ
firsts k xs = table 0 k (λ i. get_or xs i 0)

-- the truth of a text by lists of finals, kinds and values, or its fault
abbrev pub text_truth : (finals kinds values text : List ℕ) → Out Bool
text_truth finals kinds values text = map_out (truth_c (value_in finals) (value_in values)) (read_text (held_ranges finals kinds) text)
