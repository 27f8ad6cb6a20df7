-- `litmus::fitting` meets its contract. Assumes nothing.
use mathlib.Core.Path.{sym, ◌∙◌}
use Rattle.model.specs.Renumber.{fitting}
use Rattle.case.specs.Held.{case_of}
use Rattle.litmus.proofs.fitting.Goals as goal

pub returns-then-fits : goal.returns-then-fits
unfolding fitting case_of
returns-then-fits c =
    let yes = sym c.fits.ensures ∙ c.if-fits.true in rw yes c.fits-then-fits.ensures

pub returns-else-fits : goal.returns-else-fits
unfolding fitting case_of
returns-else-fits c =
    let none = sym c.fits.ensures ∙ c.if-fits.false in rw none c.if-fits.false
