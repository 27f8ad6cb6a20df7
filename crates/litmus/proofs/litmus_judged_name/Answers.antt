-- `litmus::litmus_judged_name` meets its contract. Assumes nothing.
use Rattle.litmus.proofs.NameParts.{judged-none, judged-part, judged_both}
use Rattle.litmus.proofs.litmus_judged_name.Goals as goal

pub returns-in-Ok : goal.returns-in-Ok
returns-in-Ok c =
    let whole = judged_both _ _ (judged-part _ _ _ c.in-Ok.ensures c.litmus_name.ensures) in record { value = whole.0; result_value = whole.1 }

pub returns-in-Err : goal.returns-in-Err
returns-in-Err c =
    let whole = judged_both _ _ (judged-none _ _ c.in-Err.ensures.0 c.no_part.ensures) in record { value = whole.0; result_value = whole.1 }
