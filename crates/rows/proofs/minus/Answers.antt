-- `rows::minus` meets its contract. Assumes nothing.
use mathlib.Core.Path.{refl}
use Rattle.rows.proofs.SetLaws.{taken_away, as_set}
use Rattle.rows.proofs.minus.Goals as goal

pub returns : goal.returns
returns c =
    let s = c.args in taken_away (as_set {x = s.set} refl) (as_set {x = s.other} refl)
