-- `litmus::litmus_read` meets its contract. Assumes nothing.
use mathlib.Core.Path.{ap}
use Rattle.litmus.specs.declared.CaseAnswer.{CaseAnswer}
use Rattle.litmus.specs.Shown.{case_shown}
use Rattle.litmus.proofs.litmus_read.Goals as goal

pub returns : goal.returns
unfolding case_shown
returns c =
    ap (λ (r : CaseAnswer). r.answer) c.read.ensures
