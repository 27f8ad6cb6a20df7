-- `values::leads` meets its contract. Assumes nothing.
use Rattle.rows.proofs.SetLaws.{inside-set, as_set}
use mathlib.Core.Path.{refl, ◌∙◌}
use Rattle.values.proofs.leads.Goals as goal

pub returns : goal.returns
returns c =
    c.inside_below.ensures ∙ inside-set c.args.k (as_set refl) (as_set c.row.ensures)
