-- `answers::put` meets its contract. Assumes nothing.
use mathlib.Core.Path.{ap, ◌∙◌}
use Rattle.model.specs.Answers.{Stored}
use Rattle.writer.specs.Stored.{stored_of}
use Rattle.answers.specs.declared.Refused.{Refused}
use Rattle.answers.specs.Shown.{shown, refusal_of}
use Rattle.answers.proofs.put.Goals as goal

pub returns-in-Ok-clause-value : goal.returns-in-Ok-clause-value
unfolding stored_of
returns-in-Ok-clause-value c =
    c.finished.ensures ∙ ap (λ (w : Stored). shown w.answer) c.in-Ok.ensures

pub returns-in-Ok-clause-out_after : goal.returns-in-Ok-clause-out_after
unfolding stored_of
returns-in-Ok-clause-out_after c =
    ap (λ (w : Stored). w.buffer) c.in-Ok.ensures

pub returns-in-Err-clause-value : goal.returns-in-Err-clause-value
unfolding stored_of
returns-in-Err-clause-value c =
    c.from-in-Err.ensures ∙ ap (λ (e : Refused). shown (refusal_of e)) c.from.ensures ∙ ap (λ (w : Stored). shown w.answer) c.in-Err.ensures

pub returns-in-Err-clause-out_after : goal.returns-in-Err-clause-out_after
unfolding stored_of
returns-in-Err-clause-out_after c =
    ap (λ (w : Stored). w.buffer) c.in-Err.ensures
