-- `representatives::representative` meets its contract. Assumes nothing.
use mathlib.Core.Path.{sym, ap, ◌∙◌}
use Rattle.model.specs.Answers.{Stored}
use Rattle.answers.specs.declared.Refused.{Refused}
use Rattle.answers.specs.Shown.{shown, refusal_of}
use Rattle.reader.proofs.Bytes.{slice_bytes}
use Rattle.reader.proofs.Found.{found}
use Rattle.least.proofs.Represented.{represented-sound}
use Rattle.representatives.proofs.Represented.{found_good, represented, not-represented}
use Rattle.representatives.proofs.representative.Goals as goal

pub representative-requires : goal.representative-requires
representative-requires c =
    found_good _ _ (found c.args.bytes.now (slice_bytes c.args.bytes.now c.type_inv.bytes) _ c.in-Ok.ensures)

pub put-requires : goal.put-requires
put-requires c =
    represented-sound _ _ (found_good _ _ (found c.args.bytes.now (slice_bytes c.args.bytes.now c.type_inv.bytes) _ c.in-Ok.ensures)) c.representative.ensures

pub returns-in-Ok-clause-value : goal.returns-in-Ok-clause-value
returns-in-Ok-clause-value c =
    c.put.ensures.value ∙ ap (λ (w : Stored). shown w.answer) (represented _ _ (found c.args.bytes.now (slice_bytes c.args.bytes.now c.type_inv.bytes) _ c.in-Ok.ensures) _ c.representative.ensures _ _)

pub returns-in-Ok-clause-out_after : goal.returns-in-Ok-clause-out_after
returns-in-Ok-clause-out_after c =
    c.put.ensures.out_after ∙ ap (λ (w : Stored). w.buffer) (represented _ _ (found c.args.bytes.now (slice_bytes c.args.bytes.now c.type_inv.bytes) _ c.in-Ok.ensures) _ c.representative.ensures _ _)

pub returns-in-Err-clause-value : goal.returns-in-Err-clause-value
returns-in-Err-clause-value c =
    c.from-in-Err.ensures ∙ ap (λ (e : Refused). shown (refusal_of e)) c.from.ensures ∙ sym (ap (λ (w : Stored). shown w.answer) (not-represented _ _ c.in-Err.ensures _ _))

pub returns-in-Err-clause-out_after : goal.returns-in-Err-clause-out_after
returns-in-Err-clause-out_after c =
    sym (ap (λ (w : Stored). w.buffer) (not-represented _ _ c.in-Err.ensures _ _))
