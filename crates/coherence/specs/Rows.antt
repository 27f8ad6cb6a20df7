-- What changing rows does to the order they hold.
-- Assumes nothing.
use Rattle.std.specs.Prelude.{ℕ, ◌≤◌, ◌<◌, ◌≡◌, ◌&&◌, ◌||◌, List, eqb, get_or, length}
use Rattle.storage.specs.Held.{edge_in}

-- the rows of the writes below i have x, and all before it, before y and all behind it; the others are as they were
pub record Committed (x y : ℕ) (old new : List ℕ) (i : ℕ) : Type 0 where
  pub size : length new ≡ length old
  pub done : (a b : ℕ) → b < i → edge_in new a b ≡ (edge_in old a b || ((eqb a x || edge_in old a x) && (eqb b y || edge_in old y b)))
  pub rest : (b : ℕ) → i ≤ b → get_or new b 0 ≡ get_or old b 0

-- the rows of the writes below i have all that leads there by way of j; the others are as they were
pub record ByWayOf (j : ℕ) (old new : List ℕ) (i : ℕ) : Type 0 where
  pub size : length new ≡ length old
  pub done : (a b : ℕ) → b < i → edge_in new a b ≡ (edge_in old a b || (edge_in old a j && edge_in old j b))
  pub rest : (b : ℕ) → i ≤ b → get_or new b 0 ≡ get_or old b 0
