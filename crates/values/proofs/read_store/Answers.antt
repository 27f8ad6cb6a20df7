-- `values::read_store` meets its contract. Assumes nothing.
use Rattle.rows.proofs.SetLaws.{so_set}
use Rattle.values.proofs.read_store.Goals as goal

pub returns : goal.returns
returns c =
    so_set c.where_so.ensures c.must_read.ensures c.alone.ensures
