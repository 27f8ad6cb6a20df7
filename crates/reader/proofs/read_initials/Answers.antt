use native.Mathlib.Omega.{arith}
use Rattle.reader.specs.Answers.{Stores}
use Rattle.reader.proofs.Filling.{exit}
use Rattle.reader.proofs.Filling.{filling_all}
use Rattle.reader.proofs.Initials.{begun, refusal, one_more}
use Rattle.reader.proofs.read_initials.Goals as goal

pub loop-x-init : goal.loop-x-init
loop-x-init c =
    search begun

pub returns-in_err-value : goal.returns-in_err-value
returns-in_err-value c =
    exit (Stores _ _) _ _ c.from_residual.ensures (refusal _ _ _ _ _ _ c.loop-x.invariant (omega arith) _ _ c.in_err-value.ensures)

pub loop-x-preserved : goal.loop-x-preserved
loop-x-preserved c =
    one_more _ _ _ _ _ _ c.loop-x.invariant (omega arith) c.requires.addresses_le_most_addresses _ _ c.in_ok-value.ensures

pub returns : goal.returns
returns c =
    filling_all _ _ _ _ _ _ _ c.loop-x.invariant (omega arith)
