-- `litmus::condition_record` meets its contract. Assumes nothing.
use Rattle.std.proofs.Common.{◌≡◌, Err, rules}
use Rattle.answers.specs.declared.Cause.TheVariants.{Fault, NoModel}
use mathlib.Core.Path.{sym, ap, ◌∙◌}
use Rattle.condition.specs.Shown.{condition_shown, condition_given}
use Rattle.condition_model.specs.Answers.{condition}
use Rattle.litmus.proofs.Models.{no_model}
use Rattle.reader.proofs.Bytes.{slice_bytes}
use Rattle.reader.proofs.Found.{found, case-sound}
use Rattle.litmus.proofs.Given.{condition_done, condition_missed}
use Rattle.litmus.proofs.condition_record.Goals as goal

pub returns-in_err-model : goal.returns-in_err-model
unfolding condition
returns-in_err-model c =
    let h : c.from_residual.result ≡ Err (record { cause = NoModel; place = 0 }) = search rules in
    ap condition_given h ∙ sym (ap condition_shown (no_model _ _ _ c.in_err-model.ensures.0))

pub returns-in_err-reading : goal.returns-in_err-reading
returns-in_err-reading c =
    let e = c.in_err-reading.field-0.0 in
    let h : c.from_residual-in_err-reading.result ≡ Err (record { cause = Fault e.fault; place = e.place }) = search rules in
    ap condition_given h ∙ ap condition_shown (condition_missed _ _ c.in_ok-model.ensures _ _ _ _ c.in_err-reading.ensures)

pub asked-requires : goal.asked-requires
asked-requires c =
    case-sound (found c.args.bytes.now (slice_bytes c.args.bytes.now c.type_inv.bytes) _ c.in_ok-reading.ensures)

pub returns : goal.returns
returns c =
    c.asked.ensures ∙ ap condition_shown (condition_done _ _ c.in_ok-model.ensures _ _ _ (found c.args.bytes.now (slice_bytes c.args.bytes.now c.type_inv.bytes) _ c.in_ok-reading.ensures))
