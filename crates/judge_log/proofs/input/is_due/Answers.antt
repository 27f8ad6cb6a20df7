-- `judge_log::input::is_due` meets its contract.
-- Assumes nothing.
use Rattle.std.proofs.Common.{sym}
use Rattle.laws.proofs.Bound.{most_is}
use Rattle.judge_log.proofs.Steps.{due_late}
use Rattle.judge_log.proofs.input.is_due.Goals as goal

pub returns-else-due-have : goal.returns-else-due-have
returns-else-due-have c =
    let late = c.if-due-have.false in due_late _ _ _ _ (sym most_is.1) late.0 late.1
