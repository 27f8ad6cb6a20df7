-- `litmus::judged_name` meets its contract. Assumes nothing.
use mathlib.Core.Path.{sym, refl, ◌∙◌}
use Rattle.model.specs.Answers.{judged_name}
use Rattle.litmus.proofs.Models.{no_model, either_model}
use Rattle.litmus.proofs.judged_name.Goals as goal

pub returns-in-Ok : goal.returns-in-Ok
unfolding judged_name
returns-in-Ok c =
    c.name.ensures ∙ sym (either_model _ _ _ _ _ c.in-Ok.ensures (λ w. refl))

pub returns-in-Err : goal.returns-in-Err
unfolding judged_name
returns-in-Err c =
    sym (no_model _ _ _ c.in-Err.ensures.0)
