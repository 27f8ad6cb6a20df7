-- Bytes compared byte by byte.
-- Assumes nothing.
use Rattle.std.specs.Prelude.{ℕ, Bool, true, false, cond, List, [], ◌∷◌, eqb, ltb}

-- a is less than b, or equal to it: the first byte in which they differ decides; a list that ends before one differs is the lesser
unfoldable pub at_most : List ℕ → List ℕ → Bool
at_most [] b = true
at_most (x ∷ a) [] = false
at_most (x ∷ a) (y ∷ b) = cond (eqb x y) (at_most a b) (ltb x y)
