-- `by_columns::Orders::paired` meets its contract. Assumes nothing.
use Rattle.by_columns.proofs.Laws.{paired-set}
use Rattle.by_columns.proofs.Orders.paired.Goals as goal

pub returns : goal.returns
returns c =
    paired-set c.args.p c.args.self.now.with_columns c.requires c.united-after.ensures c.united-before.ensures c.below.ensures c.both.ensures
