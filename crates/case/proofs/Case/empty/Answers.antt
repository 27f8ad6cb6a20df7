use mathlib.Core.Path.{refl}
use Rattle.case.specs.Held.{empty_case}
use Rattle.case.proofs.Case.empty.Goals as goal

pub returns : goal.returns
unfolding empty_case
returns c =
    refl
