-- `rows::paired_one` meets its contract. Assumes nothing.
use Rattle.rows.proofs.SetLaws.{masked, paired_with, paired_none}
use mathlib.Core.Path.{sym, ◌∙◌}
use Rattle.rows.proofs.paired_one.Goals as goal

pub returns-then-any : goal.returns-then-any
returns-then-any c =
    let s = c.args in
    paired_with s.k s.a s.mine c.requires.a_lt_k (masked s.k s.mine c.both.ensures c.below.ensures)
    (sym c.any.ensures ∙ c.if-any.true) c.with.ensures

pub returns-else-any : goal.returns-else-any
returns-else-any c =
    let s = c.args in paired_none s.k s.a s.mine (sym c.any.ensures ∙ c.if-any.false)
