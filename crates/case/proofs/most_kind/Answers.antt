-- `case::most_kind` meets its contract. Assumes nothing.
use mathlib.Core.Path.{sym, ◌∙◌}
use Rattle.model.specs.Case.{most_kind}
use Rattle.case.proofs.most_kind.Goals as goal

pub returns-then-is_second : goal.returns-then-is_second
unfolding most_kind
returns-then-is_second c =
    rw (sym c.is_second.ensures ∙ c.if-is_second.true)

pub returns-else-is_second : goal.returns-else-is_second
unfolding most_kind
returns-else-is_second c =
    rw (sym c.is_second.ensures ∙ c.if-is_second.false)
