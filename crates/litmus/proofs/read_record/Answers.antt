-- `litmus::read_record` meets its contract. Assumes nothing.
use Rattle.std.proofs.Common.{◌≡◌, Err, rules}
use Rattle.answers.specs.declared.Cause.TheVariants.{Fault}
use mathlib.Core.Path.{ap, ◌∙◌}
use Rattle.litmus.specs.Shown.{case_given}
use Rattle.litmus.proofs.Given.{read_shown, read_missed}
use Rattle.litmus.proofs.read_record.Goals as goal

pub returns-in_err-read_case : goal.returns-in_err-read_case
returns-in_err-read_case c =
    let e = c.in_err-read_case.field-0.0 in
    let h : c.from_residual.result ≡ Err (record { cause = Fault e.fault; place = e.place }) = search rules in
    ap case_given h ∙ read_missed _ e c.in_err-read_case.ensures

pub returns : goal.returns
returns c =
    read_shown _ _ c.in_ok-read_case.ensures
