use mathlib.Core.Path.{sym, ◌∙◌}
use Rattle.condition_model.specs.Reader.{sign}
use Rattle.condition_reader.proofs.expect.Goals as goal

pub returns-then-stands : goal.returns-then-stands
unfolding sign
returns-then-stands c =
    rw (sym c.stands.ensures ∙ c.if-stands.true)

pub returns-else-stands : goal.returns-else-stands
unfolding sign
returns-else-stands c =
    rw (c.at.ensures, sym c.stands.ensures ∙ c.if-stands.false)
