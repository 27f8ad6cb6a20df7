-- What the struct of a representative means.
-- Assumes nothing.
use mathlib.Core.Path.{◌≡◌, sym, ap, ◌∙◌, subst}
use Rattle.model.specs.Fault.{fault}
use Rattle.model.specs.Fits.{Fits}
use Rattle.case.specs.declared.Case.{Case as Held}
use Rattle.case.specs.Held.{case_of, held}
use Rattle.case.specs.Sound.{Sound}
use Rattle.case.proofs.HeldBack.{fits_back}
use Rattle.case.proofs.Shape.{fits-case, held-sound}
use Rattle.classes.specs.Representative.{representative}
use Rattle.classes.proofs.Representative.{representative-fits}

module _ (c d : Held) (good : fault (case_of c) ≡ 0) (e : d ≡ held (representative (case_of c))) where
  fits : Fits (representative (case_of c))
  fits = representative-fits (case_of c) (fits-case c good)

  pub represented-sound : Sound d
  represented-sound = subst Sound (sym e) (held-sound (representative (case_of c)) fits)

  pub represented_is : case_of d ≡ representative (case_of c)
  represented_is = ap case_of e ∙ fits_back (representative (case_of c)) fits
