-- `traces::judge` meets its contract. Assumes nothing.
use Rattle.traces.proofs.Judged.{good_read, judged, not-judged}
use Rattle.traces.proofs.judge.Goals as goal

pub run-requires : goal.run-requires
run-requires c =
    good_read _ c.type_inv.bytes _ _ c.in-Ok.ensures

pub returns-in-Ok : goal.returns-in-Ok
returns-in-Ok c =
    judged _ c.type_inv.bytes _ _ c.in-Ok.ensures _ c.run.ensures

pub returns-in-Err : goal.returns-in-Err
returns-in-Err c =
    not-judged _ _ c.in-Err.ensures _ c.unread.ensures
