-- `log_pieces::orders_size` meets its contract. Assumes nothing.
use Rattle.log_pieces.proofs.Parting.{orders-few}
use Rattle.log_pieces.proofs.orders_size.Goals as goal

pub returns : goal.returns
returns c =
    orders-few _ _ c.if-threads-gt-MOST_THREADS.false c.if-events-gt-MOST_EVENTS.false
