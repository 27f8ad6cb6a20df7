-- `condition::truth_of` meets its contract. Assumes nothing.
use mathlib.Core.Path.{◌∙◌}
use native.Mathlib.Omega.{arith}
use Rattle.condition.specs.Shown.{text_truth}
use Rattle.condition.proofs.Held.{firsts-take}
use Rattle.condition.proofs.truth_of.Goals as goal

pub returns : goal.returns
returns c =
    let d = c.args.c.now in
    c.read_text.ensures
    ∙ (λ i. text_truth (firsts-take d.addresses c.args.finals.now (omega arith) i) (firsts-take d.events d.kind (omega arith) i) (firsts-take d.events d.value (omega arith) i) c.args.text.now)
