-- `litmus::renumbers` meets its contract. Assumes nothing.
use mathlib.Core.Path.{sym, ap, ◌∙◌}
use lib.Dec.{eqb}
use Rattle.model.specs.Answers.{Stored}
use Rattle.reader.proofs.Bytes.{slice_bytes}
use Rattle.reader.proofs.Found.{found}
use Rattle.litmus.proofs.Given.{renumber-room, renumber_misfit, missed_number}
use Rattle.litmus.proofs.renumbers.Goals as goal

pub returns-then-fitting : goal.returns-then-fitting
returns-then-fitting c =
    c.has_room.ensures
    ∙ sym (renumber-room _ _ _ _ (found c.args.bytes.now (slice_bytes c.args.bytes.now c.type_inv.bytes) _ c.in-Ok.ensures) _ c.fitting.ensures (slice_bytes c.args.bytes.now c.type_inv.bytes) c.if-fitting.true c.args.room c.args.at)

pub returns-else-fitting : goal.returns-else-fitting
returns-else-fitting c =
    c.if-fitting.false ∙ sym (ap (λ (w : Stored). eqb w.answer.number 0) (renumber_misfit _ _ _ _ (found c.args.bytes.now (slice_bytes c.args.bytes.now c.type_inv.bytes) _ c.in-Ok.ensures) _ c.fitting.ensures c.if-fitting.false _ _))

pub returns-in-Err : goal.returns-in-Err
returns-in-Err c =
    sym (missed_number _ _ _ _ c.in-Err.ensures _ _)
