-- `least::order` meets its contract. Assumes nothing.
use Rattle.least.proofs.FirstField.{order_field}
use Rattle.least.proofs.order.Goals as goal

pub returns : goal.returns
returns c =
    search order_field
