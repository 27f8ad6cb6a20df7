-- `litmus::represent_held` meets its contract. Assumes nothing.
use Rattle.std.proofs.Common.{◌≡◌, Err, rules}
use Rattle.answers.specs.declared.Cause.TheVariants.{Fault}
use mathlib.Core.Path.{sym, ap, ◌∙◌}
use Rattle.least.proofs.Represented.{represented-sound}
use Rattle.litmus.specs.Shown.{case_given}
use Rattle.litmus.proofs.Represented.{represented_done, represented_faulty}
use Rattle.litmus.proofs.represent_held.Goals as goal

pub returns-in_err-check : goal.returns-in_err-check
returns-in_err-check c =
    let f = c.in_err-check.field-0.0 in
    let h : c.from_residual.result ≡ Err (record { cause = Fault f; place = 0 }) = search rules in
    ap case_given h ∙ represented_faulty _ f c.in_err-check.ensures

pub representative-case-requires : goal.representative-case-requires
representative-case-requires c =
    (sym c.in_ok-check.ensures)

pub size-requires : goal.size-requires
size-requires c =
    represented-sound _ _ (sym c.in_ok-check.ensures) c.representative-case.ensures

pub returns : goal.returns
returns c =
    represented_done _ (sym c.in_ok-check.ensures) _ c.representative-case.ensures _ c.size.ensures
