-- `log_pieces::judge_next` meets its contract. Assumes nothing.
use native.Mathlib.Omega.{arith}
use Rattle.log_pieces.proofs.Judging.{refused-next, place-within, next-within, added_next, full-next}
use Rattle.log_pieces.proofs.judge_next.Goals as goal

pub overflow_add-result : goal.overflow_add-result
overflow_add-result c =
    omega (arith, next-within c.args.bytes.now c.args.from c.args.tally.now _ c.in-Ok.ensures)

pub overflow_add-from : goal.overflow_add-from
overflow_add-from c =
    omega (arith, place-within c.args.bytes.now c.args.from c.args.tally.now _ c.in-Err.ensures c.type_inv.bytes c.requires)

pub returns-in-Ok-add : goal.returns-in-Ok-add
returns-in-Ok-add c =
    added_next _ _ _ _ c.in-Ok.ensures c.in-Ok-add.field-0 _ c.in-Ok-add.ensures

pub returns-in-Err-add : goal.returns-in-Err-add
returns-in-Err-add c =
    full-next _ _ _ _ c.in-Ok.ensures c.in-Err-add.field-0 _ c.in-Err-add.ensures

pub returns-in-Err : goal.returns-in-Err
returns-in-Err c =
    rw c.at.ensures (refused-next _ _ _ _ c.in-Err.ensures)
