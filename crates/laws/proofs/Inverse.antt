-- The inverses bring a renumbered case back.
-- Assumes nothing.
use Prim.Native.Nat.{ℕ}
use mathlib.Core.Path.{◌≡◌, ap₂, ◌∙◌}
use lib.Dec.{T}
use Rattle.permutation.specs.Permutation.{inverse, fits}
use Rattle.permutation.proofs.Laws.{composite-inverse, fits_below, fits-inverse}
use Rattle.model.specs.Case.{Case}
use Rattle.model.specs.Renumber.{renumber}
use Rattle.model.specs.Fits.{Fits}
use Rattle.laws.proofs.Composition.{renumber-composite, renumber_identity}

pub renumber-inverse :
    (q r : ℕ) (c : Case) → Fits c → T (fits q c.n) → T (fits r c.m) → renumber (inverse q) (inverse r) (renumber q r c) ≡ c
renumber-inverse q r c F fq fr =
    renumber-composite q r (inverse q) (inverse r) c fq fr (fits-inverse q c.n fq) (fits-inverse r c.m fr)
    ∙ ap₂ (λ (q r : ℕ). renumber q r c) (composite-inverse q (fits_below q c.n fq)) (composite-inverse r (fits_below r c.m fr))
    ∙ renumber_identity c F
