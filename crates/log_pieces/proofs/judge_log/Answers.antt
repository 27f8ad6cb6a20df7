-- `log_pieces::judge_log` meets its contract. Assumes nothing.
use mathlib.Core.Path.{◌∙◌}
use Rattle.log_model.specs.Pieces.{judge_log}
use Rattle.log_pieces.proofs.Answering.{answer_is}
use Rattle.log_pieces.proofs.judge_log.Goals as goal

pub returns : goal.returns
unfolding judge_log
returns c = (
  rw c.judge_records-stopped.ensures.0 at c.answered.ensures ∙ answer_is c.args.from c.args.last c.args.bytes.now c.type_inv.bytes c.args.tally.now,
  c.judge_records-stopped.ensures.1,
)
