use Rattle.reader.specs.Answers.{StoresCounted}
use Rattle.reader.proofs.Filling.{exit}
use Rattle.reader.proofs.Fields.{no_writes, no_orders, no_length, no_name, whole-rest, up_to_most}
use Rattle.reader.proofs.read_rest.Goals as goal

pub returns-in_err-after_writes : goal.returns-in_err-after_writes
returns-in_err-after_writes c =
    exit (StoresCounted _ _ _) _ _ c.from_residual.ensures (no_writes _ _ _ _ _ _ _ _ _ c.in_err-after_writes.ensures)

pub returns-in_err-after_orders : goal.returns-in_err-after_orders
returns-in_err-after_orders c =
    exit (StoresCounted _ _ _) _ _ c.from_residual-in_err-after_orders.ensures (no_orders _ _ _ _ _ _ _ _ _ c.in_ok-after_writes.ensures _ _ c.in_err-after_orders.ensures)

pub returns-in_err-count : goal.returns-in_err-count
returns-in_err-count c =
    exit (StoresCounted _ _ _) _ _ c.from_residual-in_err-count.ensures (no_length _ _ _ _ _ _ _ _ _ c.in_ok-after_writes.ensures _ _ c.in_ok-after_orders.ensures _ _ c.in_err-count.ensures)

pub read_name-requires-clause-i_le_most_name : goal.read_name-requires-clause-i_le_most_name
read_name-requires-clause-i_le_most_name c =
    up_to_most _ _ _ _ _ c.in_ok-count.ensures

pub returns-in_err-end : goal.returns-in_err-end
returns-in_err-end c =
    exit (StoresCounted _ _ _) _ _ c.from_residual-in_err-end.ensures (no_name _ _ _ _ _ _ _ _ _ c.in_ok-after_writes.ensures _ _ c.in_ok-after_orders.ensures _ _ c.in_ok-count.ensures _ _ c.in_err-end.ensures)

pub returns : goal.returns
returns c =
    whole-rest _ _ _ _ _ _ _ _ _ c.in_ok-after_writes.ensures _ _ c.in_ok-after_orders.ensures _ _ c.in_ok-count.ensures _ _ c.in_ok-end.ensures
