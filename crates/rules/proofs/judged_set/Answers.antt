-- `rules::judged_set` meets its contract. Assumes nothing.
use mathlib.Core.Path.{refl}
use Rattle.rows.proofs.SetLaws.{share, as_set}
use Rattle.rules.proofs.judged_set.Goals as goal

pub returns-in-Ppcw : goal.returns-in-Ppcw
returns-in-Ppcw c = rw c.in-Ppcw.is (share (as_set refl) (as_set refl))

pub returns-in-Ppcs : goal.returns-in-Ppcs
returns-in-Ppcs c = rw c.in-Ppcs.is (share (as_set refl) (as_set refl))
