-- `litmus::judge_record` meets its contract. Assumes nothing.
use Rattle.std.proofs.Common.{◌≡◌, Err, rules}
use Rattle.answers.specs.declared.Cause.TheVariants.{Fault, NoModel}
use mathlib.Core.Path.{sym, ap, ◌∙◌}
use Rattle.answers.specs.Shown.{shown, given}
use Rattle.model.specs.Answers.{judge}
use Rattle.litmus.proofs.Models.{no_model}
use Rattle.reader.proofs.Bytes.{slice_bytes}
use Rattle.reader.proofs.Found.{found, case-sound}
use Rattle.litmus.proofs.Given.{judge_done, judge_missed}
use Rattle.litmus.proofs.judge_record.Goals as goal

pub returns-in_err-model : goal.returns-in_err-model
unfolding judge
returns-in_err-model c =
    let h : c.from_residual.result ≡ Err (record { cause = NoModel; place = 0 }) = search rules in
    ap given h ∙ sym (ap shown (no_model _ _ _ c.in_err-model.ensures.0))

pub returns-in_err-reading : goal.returns-in_err-reading
returns-in_err-reading c =
    let e = c.in_err-reading.field-0.0 in
    let h : c.from_residual-in_err-reading.result ≡ Err (record { cause = Fault e.fault; place = e.place }) = search rules in
    ap given h ∙ ap shown (judge_missed _ _ c.in_ok-model.ensures _ _ _ c.in_err-reading.ensures)

pub judged-requires : goal.judged-requires
judged-requires c =
    case-sound (found c.args.bytes.now (slice_bytes c.args.bytes.now c.type_inv.bytes) _ c.in_ok-reading.ensures)

pub returns : goal.returns
returns c =
    c.judged.ensures ∙ ap shown (judge_done _ _ c.in_ok-model.ensures _ _ (found c.args.bytes.now (slice_bytes c.args.bytes.now c.type_inv.bytes) _ c.in_ok-reading.ensures))
