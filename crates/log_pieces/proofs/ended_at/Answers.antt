-- `log_pieces::ended_at` meets its contract. Assumes nothing.
use mathlib.Core.Path.{ap}
use Rattle.log_pieces.specs.declared.Stop.{Stop}
use Rattle.log_pieces.specs.Shown.{number_of, stop_of, stopped_shown}
use Rattle.log_pieces.proofs.Answering.{ends_clean, ends_full, ends_by}
use Rattle.log_pieces.proofs.ended_at.Goals as goal

pub returns-then-size-stopped : goal.returns-then-size-stopped
returns-then-size-stopped c =
    ends_clean _ _ (stopped_shown c.args.stopped) c.if-size-stopped.true

pub returns-in-Full : goal.returns-in-Full
returns-in-Full c =
    rw c.from.ensures (ends_full _ _ (stopped_shown c.args.stopped) c.if-size-stopped.false (ap (λ (w : Stop). number_of (stop_of w)) c.in-Full.is))

pub returns-in-Refused : goal.returns-in-Refused
returns-in-Refused c =
    ends_by _ _ c.args.stopped _ c.in-Refused.is c.if-size-stopped.false _ c.from-in-Refused.ensures
