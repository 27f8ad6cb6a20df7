-- `rows::light_row` meets its contract. Assumes nothing.
use Rattle.rows.proofs.SetLaws.{light_set}
use Rattle.rows.proofs.light_row.Goals as goal

pub returns : goal.returns
returns c =
    let s = c.args in
    light_set s.k s.barriers s.stores s.loads s.e c.below.ensures c.minus-accesses.ensures c.has.ensures c.where_so.ensures c.minus-later.ensures c.has-2.ensures c.where_so-2.ensures
