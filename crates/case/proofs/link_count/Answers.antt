-- `case::link_count` meets its contract. Assumes nothing.
use mathlib.Core.Path.{sym, ◌∙◌}
use Rattle.case.specs.Held.{link_count}
use Rattle.case.proofs.link_count.Goals as goal

pub returns-then-is_second : goal.returns-then-is_second
unfolding link_count
returns-then-is_second c =
    rw (sym c.is_second.ensures ∙ c.if-is_second.true)

pub returns-else-is_second : goal.returns-else-is_second
unfolding link_count
returns-else-is_second c =
    rw (sym c.is_second.ensures ∙ c.if-is_second.false)
