-- `litmus::renumber_held` meets its contract. Assumes nothing.
use Rattle.std.proofs.Common.{◌≡◌, Err, rules}
use Rattle.answers.specs.declared.Cause.TheVariants.{Fault}
use mathlib.Core.Path.{sym, ap, ◌∙◌}
use mathlib.Core.Bool.{true, false}
use Rattle.case.proofs.Bounds.{sound}
use Rattle.case.proofs.Shape.{fits-case}
use Rattle.litmus.specs.Shown.{case_given}
use Rattle.litmus.proofs.Given.{renumbered-sound, case_done, case_misfit, case_faulty}
use Rattle.litmus.proofs.renumber_held.Goals as goal

pub returns-in_err-check : goal.returns-in_err-check
returns-in_err-check c =
    let f = c.in_err-check.field-0.0 in
    let h : c.from_residual.result ≡ Err (record { cause = Fault f; place = 0 }) = search rules in
    ap case_given h ∙ case_faulty _ _ _ f c.in_err-check.ensures

pub returns-then-not-fitting : goal.returns-then-not-fitting
returns-then-not-fitting c =
    let no : c.fitting.result ≡ false = search rules in
    ap (λ e. case_given (Err e)) c.from.ensures ∙ case_misfit _ _ _ (sym c.in_ok-check.ensures) (sym c.fitting.ensures ∙ no)

pub relabel-case-requires-clause-sound : goal.relabel-case-requires-clause-sound
relabel-case-requires-clause-sound c =
    sound _ (sym c.in_ok-check.ensures)

pub relabel-case-requires-clause-c_value : goal.relabel-case-requires-clause-c_value
relabel-case-requires-clause-c_value c =
    let yes : c.fitting.result ≡ true = search rules in
    sym c.fitting.ensures ∙ yes

pub size-requires : goal.size-requires
size-requires c =
    let yes : c.fitting.result ≡ true = search rules in
    renumbered-sound _ (fits-case _ (sym c.in_ok-check.ensures)) _ _ _ (sym c.fitting.ensures ∙ yes) c.relabel-case.ensures

pub returns : goal.returns
returns c =
    let yes : c.fitting.result ≡ true = search rules in
    case_done _ _ _ (sym c.in_ok-check.ensures) (sym c.fitting.ensures ∙ yes) _ c.relabel-case.ensures _ c.size.ensures
