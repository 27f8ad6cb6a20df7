-- `values::reached_by` meets its contract. Assumes nothing.
use mathlib.Core.Path.{refl, ◌∙◌}
use Rattle.rows.proofs.SetLaws.{set_as, share, as_set, some-set, so_set}
use Rattle.values.proofs.reached_by.Goals as goal

pub returns : goal.returns
returns c =
    let a = c.args in
    so_set c.where_so.ensures
    (c.any-reads_it.ensures ∙ some-set a.k (set_as c.both.ensures (share (as_set refl) (as_set refl)))) (as_set (rw (← c.from.ensures) c.row.ensures))
