-- `area::finished_size` meets its contract. Assumes nothing.
use native.Mathlib.Omega.{arith}
use Rattle.area.proofs.Framing.{was_finished, was_refused, place-within}
use Rattle.area.proofs.finished_size.Goals as goal

pub returns-in-Ok : goal.returns-in-Ok
returns-in-Ok c =
    was_finished _ _ c.requires _ c.in-Ok.ensures

pub overflow_add-result : goal.overflow_add-result
overflow_add-result c =
    omega (arith, place-within c.args.area.now c.args.at c.requires _ c.in-Err.ensures c.type_inv.area)

pub returns-in-Err : goal.returns-in-Err
returns-in-Err c =
    was_refused _ _ c.requires _ c.in-Err.ensures
