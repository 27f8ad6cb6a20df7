-- `litmus::litmus_renumbered_name` meets its contract. Assumes nothing.
use mathlib.Core.Path.{sym, ◌∙◌}
use Rattle.litmus.proofs.NameParts.{renumbered-none, renumbered-part, renumbered_both}
use Rattle.litmus.proofs.litmus_renumbered_name.Goals as goal

pub returns-then-renumbers : goal.returns-then-renumbers
returns-then-renumbers c =
    let told = sym c.renumbers.ensures ∙ c.if-renumbers.true in
    let whole = renumbered_both _ _ _ _ _ (renumbered-part _ _ _ _ _ told c.litmus_name.ensures) in record { value = whole.0; result_value = whole.1 }

pub returns : goal.returns
returns c =
    let told = sym c.renumbers.ensures ∙ c.if-renumbers.false in
    let whole = renumbered_both _ _ _ _ _ (renumbered-none _ _ _ _ _ told c.no_part.ensures) in record { value = whole.0; result_value = whole.1 }
