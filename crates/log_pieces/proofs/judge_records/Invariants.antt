-- `log_pieces::judge_records` meets its contract. Assumes nothing.
use Rattle.log_model.specs.Pieces.{run}
use Rattle.log_pieces.specs.Shown.{going_at}
use Rattle.log_pieces.proofs.Going.{Going, left}
use Rattle.log_pieces.proofs.judge_records.Given as goal

-- judging comes, from the turn at hand, to the run of the bytes from the first tally
abbrev pub invariant-loop-next : goal.invariant-loop-next
invariant-loop-next l = Going l.bytes (run l.bytes l.initial.tally) (record { step = going_at l.judged; tally = l.tally })

abbrev pub decreases-loop-next : goal.decreases-loop-next
decreases-loop-next l = left l.bytes (going_at l.judged)
