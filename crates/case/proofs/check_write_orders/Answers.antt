-- `case::check_write_orders` meets its contract. Assumes nothing.
use mathlib.Core.Path.{refl, ◌∙◌}
use Rattle.case.proofs.Numbers.{some-number, err-number}
use Rattle.case.proofs.WriteOrders.{none_yet, none_at_all, found-one, found_none}
use Rattle.case.proofs.check_write_orders.Goals as goal

pub loop-x-init : goal.loop-x-init
loop-x-init c =
    none_yet _ _ _ _

pub returns-in_err-check_write_order : goal.returns-in_err-check_write_order
returns-in_err-check_write_order c =
    err-number _ _ c.from_residual.ensures
    ∙ found-one _ _ _ _ _ c.loop-x.invariant c.loop-x-test.true _ c.in_err-check_write_order.ensures (some-number _)

pub loop-x-preserved : goal.loop-x-preserved
loop-x-preserved c =
    found_none _ _ _ _ _ c.loop-x.invariant c.loop-x-test.true _ c.in_ok-check_write_order.ensures refl

pub returns : goal.returns
returns c =
    search none_at_all
