-- `log_pieces::answered` meets its contract. Assumes nothing.
use Rattle.log_pieces.specs.Shown.{stopped_shown}
use Rattle.log_pieces.proofs.Answering.{as_waiting, as_stopped, waits_at, waits_not}
use Rattle.log_pieces.proofs.answered.Goals as goal

pub returns-then-waits : goal.returns-then-waits
returns-then-waits c =
    as_waiting _ _ (stopped_shown c.args.stopped) _ c.if-last.false (waits_at _ _ c.waits.ensures c.if-waits.true)

pub returns : goal.returns
returns c =
    as_stopped _ _ (stopped_shown c.args.stopped) _ _ c.ended_at-2.ensures (waits_not _ _ c.waits.ensures c.if-waits.false)
