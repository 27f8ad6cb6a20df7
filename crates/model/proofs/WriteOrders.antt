-- Write orders that fit, by their addresses.
-- Assumes nothing.
use Prim.Native.Nat.{ℕ}
use mathlib.Core.Path.{◌≡◌}
use mathlib.Core.Bool.{Bool}
use mathlib.Core.List.{List, [], ◌∷◌, ◌++◌}
use lib.ListN.{length}
use Rattle.finite.specs.Tests.{count}
use Rattle.finite.specs.Lists.{AllFrom}
use Rattle.finite.proofs.Lists.{one_longer}
use Rattle.model.specs.Fits.{WriteFits, WritesFit}

-- write orders that fit are each as long as there are stores to its address, and list those
module _ (k : ℕ) (mine : ℕ → ℕ → Bool) where
  abbrev pub WritesFrom : ℕ → List (List ℕ) → Type 0
  WritesFrom x ws = AllFrom (λ x w. (length w ≡ count k (mine x)) × WriteFits k (mine x) [] w) x ws

  pub writes_from : (before ws : List (List ℕ)) → WritesFit k mine before ws → WritesFrom (length before) ws
  writes_from before [] h = tt
  writes_from before (w ∷ ws) h = ((h.0, h.1), rw (one_longer before w) at (writes_from (before ++ (w ∷ [])) ws h.2))

  pub from_writes : (before ws : List (List ℕ)) → WritesFrom (length before) ws → WritesFit k mine before ws
  from_writes before [] h = tt
  from_writes before (w ∷ ws) h =
      let rest : WritesFrom (length (before ++ (w ∷ []))) ws = rw (one_longer before w) h.1 in
      (h.0.0, h.0.1, from_writes (before ++ (w ∷ [])) ws rest)
