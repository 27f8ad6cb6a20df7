-- `log_pieces::judged_part` meets its contract.
-- Assumes nothing.
use Rattle.log_pieces.specs.Shown.{going_at}
use Rattle.log_pieces.proofs.Going.{left}
use Rattle.log_pieces.proofs.Parting.{Parted}
use Rattle.log_pieces.proofs.judged_part.Given as goal

abbrev pub invariant-loop-kept : goal.invariant-loop-kept
invariant-loop-kept l = Parted l.bytes l.initial.kept (going_at l.judged) l.kept

abbrev pub decreases-loop-kept : goal.decreases-loop-kept
decreases-loop-kept l = left l.bytes (going_at l.judged)
