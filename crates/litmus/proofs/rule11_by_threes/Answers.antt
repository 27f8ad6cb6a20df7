-- `litmus::rule11_by_threes` meets its contract. Assumes nothing.
use mathlib.Core.Path.{◌∙◌}
use Rattle.litmus.proofs.OrderAnswers.{few-threads, few-events, many_is, few_is}
use Rattle.litmus.proofs.rule11_by_threes.Goals as goal

pub returns-then-too_many : goal.returns-then-too_many
returns-then-too_many c =
    c.from.ensures ∙ many_is c.args.threads c.args.events c.too_many.ensures c.args.rows.now c.if-too_many.true

pub rule11_by_threes-requires-clause-n_le_most_threads : goal.rule11_by_threes-requires-clause-n_le_most_threads
rule11_by_threes-requires-clause-n_le_most_threads c =
    few-threads c.args.threads c.args.events c.too_many.ensures c.if-too_many.false

pub rule11_by_threes-requires-clause-k_le_most_events : goal.rule11_by_threes-requires-clause-k_le_most_events
rule11_by_threes-requires-clause-k_le_most_events c =
    few-events c.args.threads c.args.events c.too_many.ensures c.if-too_many.false

pub returns : goal.returns
returns c =
    few_is c.args.threads c.args.events c.too_many.ensures c.args.rows.now c.if-too_many.false c.rule11_number.ensures c.rule11_by_threes.ensures
