-- Fields compared one after the other.
-- Assumes nothing.
use Rattle.std.specs.Prelude.{ℕ, ◌<◌, ◌≡◌}
use Rattle.std.specs.declared.cmp.Ordering.{Ordering}
use Rattle.std.specs.declared.cmp.Ordering.TheVariants.{Equal}

-- field i compares as r, and those before it are equal, where `Tells i r` says that field i compares as r
pub record DiffersAt (Tells : ℕ → Ordering → Type 0) (n : ℕ) (r : Ordering) : Type 0 where
  pub field : ℕ
  pub below : field < n
  pub here : Tells field r
  pub before : (j : ℕ) → j < field → Tells j Equal

-- n fields compare as the first that differs
pub record FirstDiffers (Tells : ℕ → Ordering → Type 0) (n : ℕ) (r : Ordering) : Type 0 where
  pub equal : r ≡ Equal → (i : ℕ) → i < n → Tells i Equal
  pub differs : (r ≡ Equal → ⊥) → DiffersAt Tells n r
