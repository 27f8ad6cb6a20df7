use mathlib.Core.Path.{◌∙◌}
use Rattle.condition_model.specs.Reader.{valued}
use Rattle.condition_reader.proofs.Passing.{told-err}
use Rattle.condition_reader.proofs.valued.Goals as goal

pub returns-in_err-start : goal.returns-in_err-start
unfolding valued
returns-in_err-start c =
    told-err _ _ c.from_residual.ensures ∙ rw (← c.in_err-start.ensures)

pub returns-in_err-v : goal.returns-in_err-v
unfolding valued
returns-in_err-v c =
    told-err _ _ c.from_residual-in_err-v.ensures ∙ rw (← c.in_ok-start.ensures, ← c.skip.ensures, ← c.in_err-v.ensures)

pub returns : goal.returns
unfolding valued
returns c =
    rw (← c.in_ok-start.ensures, ← c.skip.ensures, ← c.in_ok-v.ensures, ← c.skip-2.ensures)
