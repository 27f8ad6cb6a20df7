use Rattle.reader.specs.Answers.{Stores}
use Rattle.reader.proofs.Filling.{exit}
use native.Mathlib.Omega.{arith}
use mathlib.Core.Path.{refl}
use Rattle.reader.proofs.Tables.{first-stop, first-read, table-stop, table-next, table-all, table-room}
use Rattle.case.proofs.Pad.{step-size}
use Rattle.reader.proofs.read_orders.Goals as goal

pub returns-in_err-place : goal.returns-in_err-place
returns-in_err-place c =
    exit (Stores _ _) _ _ c.from_residual.ensures (first-stop _ _ _ _ _ c.requires.rows_value c.requires.le_threads _ _ c.in_err-place.ensures)

pub loop-p-init : goal.loop-p-init
loop-p-init c =
    first-read _ _ _ _ _ c.requires.rows_value c.requires.le_threads _ _ _ c.in_ok-place.ensures refl

pub read_order-requires-in-loop-p-clause-rows_value : goal.read_order-requires-in-loop-p-clause-rows_value
read_order-requires-in-loop-p-clause-rows_value c =
    search (table-room, step-size)

pub returns-in_err-place-2 : goal.returns-in_err-place-2
returns-in_err-place-2 c =
    exit (Stores _ _) _ _ c.from_residual-in_err-place-2.ensures (table-stop _ _ _ _ _ _ _ _ _ c.loop-p.invariant (omega arith) _ _ c.in_err-place-2.ensures)

pub loop-p-preserved : goal.loop-p-preserved
loop-p-preserved c =
    table-next _ _ _ _ _ _ _ _ _ c.loop-p.invariant (omega arith) _ _ c.in_ok-place-2.ensures c.requires.le_threads.1 _ (step-size _)

pub returns : goal.returns
returns c =
    table-all _ _ _ _ _ _ _ _ _ c.loop-p.invariant (omega arith)
