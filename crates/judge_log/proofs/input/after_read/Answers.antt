-- `judge_log::input::after_read` meets its contract.
-- Assumes nothing.
use Rattle.std.proofs.Common.{sym, ◌∙◌, refl}
use Rattle.std.proofs.lemmas.Result.{err_from_is_err_and}
use Rattle.judge_log.specs.Progress.{unreadable, judging, keeping}
use Rattle.judge_log.proofs.input.after_read.Goals as goal

pub returns-in_err-got : goal.returns-in_err-got
returns-in_err-got c =
    let p = err_from_is_err_and c.from_residual.result c.from_residual.ensures.1 in
    unreadable c.in_err-got.field-0.0 c.in_err-got.was (rw (p.1, p.2))

pub returns-then-is_due : goal.returns-then-is_due
returns-then-is_due c =
    judging c.in_ok-got.got _ c.in_ok-got.was (sym c.is_due.ensures ∙ c.if-is_due.true) c.judge_held.ensures refl

pub returns : goal.returns
returns c =
    keeping c.in_ok-got.got c.in_ok-got.was (sym c.is_due.ensures ∙ c.if-is_due.false) refl
