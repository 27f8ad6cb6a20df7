-- `judge_log::judge_standard_input` meets what it calls: only a log that was judged whole is printed.
-- Assumes nothing.
use Rattle.judge_log.proofs.Steps.{finished}
use Rattle.judge_log.proofs.judge_standard_input.Goals as goal

pub say_summary-requires : goal.say_summary-requires
say_summary-requires g c = finished _ c.judge_input.ensures _ c.in-Ok-Over.is _ c.in-Ok-Over.field-0-is
