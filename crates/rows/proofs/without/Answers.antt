-- `rows::without` meets its contract. Assumes nothing.
use Rattle.rows.proofs.SetLaws.{taken_out}
use Rattle.rows.proofs.without.Goals as goal

pub returns : goal.returns
returns c =
    let s = c.args in taken_out s.set s.i c.with.ensures c.with-2.ensures
