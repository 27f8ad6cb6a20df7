-- `judge_log::input::judge_held` meets its contract.
-- Assumes nothing.
use Rattle.std.proofs.Common.{rules}
use Rattle.judge_log.proofs.Steps.{place-sum, length-within, judged-over, judged-going}
use Rattle.judge_log.proofs.input.judge_held.Goals as goal

pub returns-then-answer : goal.returns-then-answer
returns-then-answer c = search judged-over

pub overflow_add-result : goal.overflow_add-result
overflow_add-result c = search (place-sum, rules)

pub overflow_sub-result : goal.overflow_sub-result
overflow_sub-result c = search (length-within, rules)

pub returns : goal.returns
returns c = search judged-going
