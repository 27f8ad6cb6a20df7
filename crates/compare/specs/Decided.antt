-- What a comparison of two fields tells.
-- Assumes nothing.
use Rattle.std.specs.Prelude.{ℕ, ◌≡◌, true, false, List, ◌++◌}
use Rattle.std.specs.declared.cmp.Ordering.{Ordering}
use Rattle.std.specs.declared.cmp.Ordering.TheVariants.{Less, Equal, Greater}
use Rattle.classes.specs.Order.{at_most}

-- of the bytes a and b: `Equal` says that they are equal, `Less` that a is less, whatever follows the two, and `Greater` that b is less
pub record Decided (a b : List ℕ) (r : Ordering) : Type 0 where
  pub equal : r ≡ Equal → a ≡ b
  pub less : r ≡ Less → (u v : List ℕ) → at_most (a ++ u) (b ++ v) ≡ true
  pub greater : r ≡ Greater → (u v : List ℕ) → at_most (a ++ u) (b ++ v) ≡ false
