-- `rows::any` meets its contract. Assumes nothing.
use Rattle.rows.proofs.SetLaws.{masked, any_below}
use Rattle.rows.proofs.any.Goals as goal

pub returns : goal.returns
returns c =
    let s = c.args in any_below s.k s.set c.both.result c.both.type_inv (masked s.k s.set c.both.ensures c.below.ensures)
