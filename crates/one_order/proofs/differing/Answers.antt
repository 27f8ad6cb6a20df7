-- `one_order::differing` meets its contract. Assumes nothing.
use Rattle.one_order.proofs.AlikeOrders.{differ_none}
use Rattle.one_order.proofs.differing.Goals as goal

pub returns : goal.returns
returns c =
    differ_none c.args.found c.args.mine c.args.other
