-- `litmus::judge_held` meets its contract. Assumes nothing.
use Rattle.std.proofs.Common.{◌≡◌, Err, rules}
use Rattle.answers.specs.declared.Cause.TheVariants.{Fault, NoModel}
use mathlib.Core.Path.{sym, ap, ◌∙◌}
use Rattle.answers.specs.Shown.{shown, given}
use Rattle.model.specs.Answers.{judge_case}
use Rattle.litmus.proofs.Models.{no_model}
use Rattle.case.proofs.Bounds.{sound}
use Rattle.litmus.proofs.Given.{judge_good, judge_bad}
use Rattle.litmus.proofs.judge_held.Goals as goal

pub returns-in_err-model : goal.returns-in_err-model
unfolding judge_case
returns-in_err-model c =
    let h : c.from_residual.result ≡ Err (record { cause = NoModel; place = 0 }) = search rules in
    ap given h ∙ sym (ap shown (no_model _ _ _ c.in_err-model.ensures.0))

pub returns-in_err-check : goal.returns-in_err-check
returns-in_err-check c =
    let f = c.in_err-check.field-0.0 in
    let h : c.from_residual-in_err-check.result ≡ Err (record { cause = Fault f; place = 0 }) = search rules in
    ap given h ∙ ap shown (judge_bad _ _ c.in_ok-model.ensures _ f c.in_err-check.ensures)

pub size-requires : goal.size-requires
size-requires c =
    sound _ (sym c.in_ok-check.ensures)

pub judged-requires : goal.judged-requires
judged-requires c =
    sound _ (sym c.in_ok-check.ensures)

pub returns : goal.returns
returns c =
    c.judged.ensures ∙ ap shown (judge_good _ _ c.in_ok-model.ensures _ _ c.size.ensures (sym c.in_ok-check.ensures))
