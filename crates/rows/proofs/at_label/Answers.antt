-- `rows::at_label` meets its contract. Assumes nothing.
use mathlib.Core.Path.{sym, ◌∙◌}
use lib.ListN.{get_or}
use Rattle.bits.specs.Bit.{bit}
use Rattle.rows.proofs.SetLaws.{not_so}
use Rattle.rows.proofs.at_label.Goals as goal

pub returns-else-has : goal.returns-else-has
returns-else-has c =
    let s = c.args in not_so (bit s.set s.e) (get_or s.sets.now (get_or s.bytes.now s.e 0) 0) (sym c.has.ensures ∙ c.if-has.false)
