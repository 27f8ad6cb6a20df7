-- The first event in which two rows differ.
-- Assumes nothing.
use Rattle.std.specs.Prelude.{ℕ, ◌<◌, ◌≡◌, true, false}
use Rattle.std.specs.declared.cmp.Ordering.{Ordering}
use Rattle.std.specs.declared.cmp.Ordering.TheVariants.{Less, Equal, Greater}
use Rattle.bits.specs.Bit.{bit}

-- of the events below k that are in one of the rows alone, the first is in s
pub record FirstIn (k s t : ℕ) : Type 0 where
  pub event : ℕ
  pub below : event < k
  pub has : bit s event ≡ true
  pub lacks : bit t event ≡ false
  pub same : (e : ℕ) → e < event → bit s e ≡ bit t e

-- `Equal` says that there is none, `Less` that it is in s, and `Greater` that it is in t
pub record Alone (k s t : ℕ) (r : Ordering) : Type 0 where
  pub none : r ≡ Equal → (e : ℕ) → e < k → bit s e ≡ bit t e
  pub first : r ≡ Less → FirstIn k s t
  pub second : r ≡ Greater → FirstIn k t s
