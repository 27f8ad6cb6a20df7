-- `values::after_of` meets its contract. Assumes nothing.
use mathlib.Core.Path.{refl}
use Rattle.rows.proofs.SetLaws.{set_as, share, as_set}
use Rattle.values.proofs.after_of.Goals as goal

pub returns : goal.returns
returns c =
    set_as c.both.ensures (share (as_set refl) (as_set c.row.ensures))
