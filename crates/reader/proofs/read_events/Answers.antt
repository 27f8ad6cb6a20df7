use native.Mathlib.Omega.{arith}
use Rattle.reader.specs.Answers.{Stores}
use Rattle.reader.proofs.Filling.{exit}
use Rattle.reader.proofs.Filling.{filling_all}
use Rattle.reader.proofs.Events.{begun, refusal, one_more}
use Rattle.reader.proofs.read_events.Goals as goal

pub loop-e-init : goal.loop-e-init
loop-e-init c =
    search begun

pub returns-in_err-event : goal.returns-in_err-event
returns-in_err-event c =
    exit (Stores _ _) _ _ c.from_residual.ensures (refusal _ _ _ _ _ _ _ _ _ _ _ _ c.loop-e.invariant (omega arith) _ _ c.in_err-event.ensures)

pub loop-e-preserved : goal.loop-e-preserved
loop-e-preserved c =
    one_more _ _ _ _ _ _ _ _ _ _ _ _ c.loop-e.invariant (omega arith) c.requires.count_le_most_events _ _ c.in_ok-event.ensures

pub returns : goal.returns
returns c =
    filling_all _ _ _ _ _ _ _ c.loop-e.invariant (omega arith)
