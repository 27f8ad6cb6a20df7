-- `rows::alone` meets its contract. Assumes nothing.
use Rattle.rows.proofs.SetLaws.{single}
use Rattle.rows.proofs.alone.Goals as goal

pub returns : goal.returns
returns c =
    single c.args.i c.with.ensures
