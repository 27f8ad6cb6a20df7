-- `log_pieces::judge_first` meets its contract. Assumes nothing.
use Rattle.log_pieces.proofs.Judging.{is-sound, was_judged}
use Rattle.log_pieces.proofs.judge_first.Goals as goal

pub verdict_of-requires : goal.verdict_of-requires
verdict_of-requires c =
    is-sound _ c.type_inv.bytes _ c.in_ok-reading.ensures

pub returns : goal.returns
returns c =
    was_judged _ c.type_inv.bytes _ c.in_ok-reading.ensures _ c.verdict_of.ensures
