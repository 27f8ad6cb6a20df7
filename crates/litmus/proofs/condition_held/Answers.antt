-- `litmus::condition_held` meets its contract. Assumes nothing.
use Rattle.std.proofs.Common.{◌≡◌, Err, rules}
use Rattle.answers.specs.declared.Cause.TheVariants.{Fault, NoModel}
use mathlib.Core.Path.{sym, ap, ◌∙◌}
use Rattle.condition.specs.Shown.{condition_shown, condition_given}
use Rattle.condition_model.specs.Answers.{condition_case}
use Rattle.litmus.proofs.Models.{no_model}
use Rattle.case.proofs.Bounds.{sound}
use Rattle.litmus.proofs.Given.{condition_good, condition_bad}
use Rattle.litmus.proofs.condition_held.Goals as goal

pub returns-in_err-model : goal.returns-in_err-model
unfolding condition_case
returns-in_err-model c =
    let h : c.from_residual.result ≡ Err (record { cause = NoModel; place = 0 }) = search rules in
    ap condition_given h ∙ sym (ap condition_shown (no_model _ _ _ c.in_err-model.ensures.0))

pub returns-in_err-check : goal.returns-in_err-check
returns-in_err-check c =
    let f = c.in_err-check.field-0.0 in
    let h : c.from_residual-in_err-check.result ≡ Err (record { cause = Fault f; place = 0 }) = search rules in
    ap condition_given h ∙ ap condition_shown (condition_bad _ _ c.in_ok-model.ensures _ _ f c.in_err-check.ensures)

pub size-requires : goal.size-requires
size-requires c =
    sound _ (sym c.in_ok-check.ensures)

pub asked-requires : goal.asked-requires
asked-requires c =
    sound _ (sym c.in_ok-check.ensures)

pub returns : goal.returns
returns c =
    c.asked.ensures ∙ ap condition_shown (condition_good _ _ c.in_ok-model.ensures _ _ _ c.size.ensures (sym c.in_ok-check.ensures))
