use mathlib.Core.Path.{sym, ◌∙◌}
use Rattle.condition_reader.specs.Told.{sign_at}
use Rattle.condition_reader.proofs.Passing.{sign_told-err}
use Rattle.condition_reader.proofs.sign_at.Goals as goal

pub returns-then-not-stands : goal.returns-then-not-stands
unfolding sign_at
returns-then-not-stands c =
    rw (sym c.stands.ensures ∙ c.if-not-stands.true)

pub returns-in_err-end : goal.returns-in_err-end
unfolding sign_at
returns-in_err-end c =
    sign_told-err _ _ _ c.from_residual.ensures ∙ rw (sym c.stands.ensures ∙ c.if-not-stands.false, ← c.in_err-end.ensures)

pub returns : goal.returns
unfolding sign_at
returns c =
    rw (sym c.stands.ensures ∙ c.if-not-stands.false, ← c.in_ok-end.ensures, ← c.skip.ensures)
