-- Which permutation the search chooses.
-- Assumes nothing.
use Rattle.std.specs.Prelude.{ℕ, ◌<◌, ◌≡◌, true, false, List}
use Rattle.permutation.specs.Permutation.{fits}
use Rattle.classes.specs.Order.{at_most}
use Rattle.classes.specs.Search.{Best}

-- of the permutations below i that fit n labels, q gives the least part, and none before it gives as little
pub record Chosen (part : ℕ → List ℕ) (n i q : ℕ) : Type 0 where
  pub best : Best (λ q. fits q n) part i q
  pub first : (p : ℕ) → p < q → fits p n ≡ true → at_most (part p) (part q) ≡ false
