use Rattle.reader.specs.Answers.{Stores}
use Rattle.reader.proofs.Filling.{exit}
use native.Mathlib.Omega.{arith}
use Rattle.reader.proofs.Tables.{table-begun, table-stop, table-next, table-all, table-room}
use Rattle.case.proofs.Pad.{step-size}
use Rattle.reader.proofs.read_writes.Goals as goal

pub loop-x-init : goal.loop-x-init
loop-x-init c =
    search table-begun

pub read_write_order-requires : goal.read_write_order-requires
read_write_order-requires c =
    search (table-room, step-size)

pub returns-in_err-place : goal.returns-in_err-place
returns-in_err-place c =
    exit (Stores _ _) _ _ c.from_residual.ensures (table-stop _ _ _ _ _ _ _ _ _ c.loop-x.invariant (omega arith) _ _ c.in_err-place.ensures)

pub loop-x-preserved : goal.loop-x-preserved
loop-x-preserved c =
    table-next _ _ _ _ _ _ _ _ _ c.loop-x.invariant (omega arith) _ _ c.in_ok-place.ensures c.requires.addresses_le_most_addresses _ (step-size _)

pub returns : goal.returns
returns c =
    table-all _ _ _ _ _ _ _ _ _ c.loop-x.invariant (omega arith)
