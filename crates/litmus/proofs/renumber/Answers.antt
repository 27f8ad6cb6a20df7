-- `litmus::renumber` meets its contract. Assumes nothing.
use mathlib.Core.Path.{◌≡◌, sym, ap, ◌∙◌}
use mathlib.Core.Bool.{true, false}
use Rattle.std.proofs.Common.{rules}
use Rattle.model.specs.Answers.{Stored}
use Rattle.answers.specs.declared.Refused.{Refused}
use Rattle.answers.specs.Shown.{shown, refusal_of}
use Rattle.reader.proofs.Bytes.{slice_bytes}
use Rattle.reader.proofs.Found.{found, case-sound}
use Rattle.litmus.proofs.Given.{found-fits, renumber_done, renumber_missed, renumber_misfit, renumbered-sound, fitted}
use Rattle.litmus.proofs.renumber.Goals as goal

pub returns-in-Err-clause-value : goal.returns-in-Err-clause-value
returns-in-Err-clause-value c =
    c.from-in-Err-2.ensures ∙ ap (λ (e : Refused). shown (refusal_of e)) c.from-in-Err.ensures ∙ sym (ap (λ (w : Stored). shown w.answer) (renumber_missed _ _ _ _ c.in-Err.ensures _ _))

pub returns-in-Err-clause-out_after : goal.returns-in-Err-clause-out_after
returns-in-Err-clause-out_after c =
    sym (ap (λ (w : Stored). w.buffer) (renumber_missed _ _ _ _ c.in-Err.ensures _ _))

pub returns-then-not-fitting-clause-value : goal.returns-then-not-fitting-clause-value
returns-then-not-fitting-clause-value c =
    let no : c.fitting.result ≡ false = search rules in
    let f = found c.args.bytes.now (slice_bytes c.args.bytes.now c.type_inv.bytes) _ c.in-Ok.ensures in
    c.from-then-not-fitting.ensures ∙ ap (λ (e : Refused). shown (refusal_of e)) c.from.ensures
    ∙ sym (ap (λ (w : Stored). shown w.answer) (renumber_misfit _ _ _ _ f _ c.fitting.ensures no _ _))

pub returns-then-not-fitting-clause-out_after : goal.returns-then-not-fitting-clause-out_after
returns-then-not-fitting-clause-out_after c =
    let no : c.fitting.result ≡ false = search rules in
    let f = found c.args.bytes.now (slice_bytes c.args.bytes.now c.type_inv.bytes) _ c.in-Ok.ensures in
    sym (ap (λ (w : Stored). w.buffer) (renumber_misfit _ _ _ _ f _ c.fitting.ensures no _ _))

pub relabel-requires-clause-sound : goal.relabel-requires-clause-sound
relabel-requires-clause-sound c =
    case-sound (found c.args.bytes.now (slice_bytes c.args.bytes.now c.type_inv.bytes) _ c.in-Ok.ensures)

pub put-requires : goal.put-requires
put-requires c =
    let yes : c.fitting.result ≡ true = search rules in
    let f = found c.args.bytes.now (slice_bytes c.args.bytes.now c.type_inv.bytes) _ c.in-Ok.ensures in
    renumbered-sound _ (found-fits _ _ c.args.q c.args.r f) _ _ _ (sym c.fitting.ensures ∙ yes) c.relabel.ensures

pub returns-else-not-fitting-clause-value : goal.returns-else-not-fitting-clause-value
returns-else-not-fitting-clause-value c =
    let yes : c.fitting.result ≡ true = search rules in
    let f = found c.args.bytes.now (slice_bytes c.args.bytes.now c.type_inv.bytes) _ c.in-Ok.ensures in
    c.put.ensures.value ∙ ap (λ (w : Stored). shown w.answer) (fitted _ _ _ _ c.fitting.ensures _ _ yes (found-fits _ _ c.args.q c.args.r f) _ c.relabel.ensures ∙ renumber_done _ _ _ _ f _ _)

pub returns-else-not-fitting-clause-out_after : goal.returns-else-not-fitting-clause-out_after
returns-else-not-fitting-clause-out_after c =
    let yes : c.fitting.result ≡ true = search rules in
    let f = found c.args.bytes.now (slice_bytes c.args.bytes.now c.type_inv.bytes) _ c.in-Ok.ensures in
    c.put.ensures.out_after ∙ ap (λ (w : Stored). w.buffer) (fitted _ _ _ _ c.fitting.ensures _ _ yes (found-fits _ _ c.args.q c.args.r f) _ c.relabel.ensures ∙ renumber_done _ _ _ _ f _ _)
