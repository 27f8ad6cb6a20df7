-- `one_order::covered_order` meets its contract. Assumes nothing.
use Rattle.one_order.proofs.Covers.{rows_fail, rows_end}
use Rattle.one_order.proofs.covered_order.Goals as goal

pub returns-then-not-covered_row : goal.returns-then-not-covered_row
returns-then-not-covered_row c =
    search rows_fail

pub returns : goal.returns
returns c =
    search rows_end
