-- `values::carried_event` meets its contract. Assumes nothing.
use mathlib.Core.Path.{◌∙◌}
use Rattle.rows.specs.Sets.{order_in}
use Rattle.rows.proofs.SetLaws.{imp_yes}
use Rattle.values.proofs.Laws.{leads_set}
use Rattle.values.proofs.carried_event.Goals as goal

pub returns : goal.returns
returns c =
    c.leads_everywhere.ensures
    ∙ leads_set c.args.k c.args.n (λ q. order_in c.args.asked.now q c.args.e) c.ordered_after.ensures
    ∙ imp_yes _ _ c.requires.e_value
