-- `log_pieces::judge_record` meets its contract. Assumes nothing.
use Rattle.log_pieces.proofs.Judging.{part-judged}
use Rattle.log_pieces.proofs.judge_record.Goals as goal

pub returns : goal.returns
returns c =
    part-judged c.args.bytes.now c.args.from _ c.judge_first.ensures
