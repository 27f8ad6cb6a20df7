-- `one_order::by_size` meets its contract. Assumes nothing.
use borrow.Author.Rules.{rules}
use Rattle.one_order.proofs.FinalParts.{unnamed, size_fits}
use Rattle.one_order.proofs.by_size.Goals as goal

pub loop-a-init : goal.loop-a-init
loop-a-init c =
    unnamed c.args.k

pub bounds-out-size : goal.bounds-out-size
bounds-out-size c =
    size_fits c.args.k c.row.result (search rules) c.size_below-size.ensures
