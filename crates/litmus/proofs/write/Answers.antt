-- `litmus::write` meets its contract. Assumes nothing.
use mathlib.Core.Path.{sym, ap, ◌∙◌}
use Rattle.model.specs.Answers.{Stored}
use Rattle.case.proofs.Bounds.{sound}
use Rattle.answers.specs.declared.Refused.{Refused}
use Rattle.answers.specs.Shown.{shown, refusal_of}
use Rattle.litmus.proofs.Given.{write_good, write_bad}
use Rattle.litmus.proofs.write.Goals as goal

pub put-requires : goal.put-requires
put-requires c =
    sound _ (sym c.in-Ok.ensures)

pub returns-in-Ok-clause-value : goal.returns-in-Ok-clause-value
returns-in-Ok-clause-value c =
    c.put.ensures.value ∙ ap (λ (w : Stored). shown w.answer) (write_good _ _ _ (sym c.in-Ok.ensures))

pub returns-in-Ok-clause-out_after : goal.returns-in-Ok-clause-out_after
returns-in-Ok-clause-out_after c =
    c.put.ensures.out_after ∙ ap (λ (w : Stored). w.buffer) (write_good _ _ _ (sym c.in-Ok.ensures))

pub returns-in-Err-clause-value : goal.returns-in-Err-clause-value
returns-in-Err-clause-value c =
    c.from-in-Err.ensures ∙ ap (λ (e : Refused). shown (refusal_of e)) c.from.ensures ∙ ap (λ (w : Stored). shown w.answer) (write_bad _ _ _ _ c.in-Err.ensures)

pub returns-in-Err-clause-out_after : goal.returns-in-Err-clause-out_after
returns-in-Err-clause-out_after c =
    ap (λ (w : Stored). w.buffer) (write_bad _ _ _ _ c.in-Err.ensures)
