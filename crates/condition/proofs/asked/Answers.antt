-- `condition::asked` meets its contract. Assumes nothing.
use mathlib.Core.Path.{◌∙◌}
use Rattle.rules.specs.Models.{model_of}
use Rattle.condition.proofs.Held.{is_accepted, is_broken}
use Rattle.condition.proofs.asked.Goals as goal

pub returns-then-answer-ne0 : goal.returns-then-answer-ne0
returns-then-answer-ne0 c =
    c.answered.ensures ∙ is_broken c.args.c c.args.length (model_of c.args.model) _ c.judged-answer.ensures _ c.if-answer-ne0.true

pub returns-in-Ok : goal.returns-in-Ok
returns-in-Ok c =
    let x = c.in-Ok.ensures in
    c.answered-in-Ok.ensures
    ∙ is_accepted c.args.c c.args.length (model_of c.args.model) _ c.judged-answer.ensures _ c.requires
    c.if-answer-ne0.false _ x

pub returns-in-Err : goal.returns-in-Err
returns-in-Err c =
    c.from.ensures
    ∙ is_accepted c.args.c c.args.length (model_of c.args.model) _ c.judged-answer.ensures _ c.requires
    c.if-answer-ne0.false _ c.in-Err.ensures
