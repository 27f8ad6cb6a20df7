-- `rows::where_so` meets its contract. Assumes nothing.
use Rattle.rows.proofs.SetLaws.{not_so}
use Rattle.rows.proofs.where_so.Goals as goal

pub returns-else-test : goal.returns-else-test
returns-else-test c =
    not_so c.args.test c.args.set c.if-test.false
