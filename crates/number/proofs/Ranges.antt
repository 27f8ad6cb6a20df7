-- The two readers of a number below a bound agree.
-- Assumes nothing.
use Prim.Native.Nat.{ℕ, ◌+◌, ◌-◌, ◌≤◌, ◌<◌}
use native.Mathlib.Omega.{arith}
use mathlib.Core.Path.{◌≡◌, refl}
use mathlib.Core.Bool.{Bool, true, false, cond}
use mathlib.Core.Logic.{⊎_elim}
use lib.Dec.{ltb}
use lib.ListN.{drop}
use borrow.Author.Tests.{lt-ltb, le-ltb}
use Rattle.number.specs.Number.{Raw, got, short, wrong, groups, read_groups, finish, read_number}
use Rattle.number.specs.Reader.{stop, tested, unless, up_to, below, under}
use Rattle.number.specs.Number.{stop, next}
use Rattle.number.proofs.Encoding.{lt_or_ge}

below_raw : (b at : ℕ) → 1 ≤ b → (r : Raw) → (finish at (b - 1) r) ≡ tested 3 (λ v. ltb v b) at ((finish at b r))
unfolding finish
below_raw b at l short = refl
below_raw b at l wrong = refl
below_raw b at l (got v n) =
    ⊎_elim
    (λ (h : v < b).
    let h₁ : v ≤ b - 1 = omega arith in
    let h₂ : v ≤ b = omega arith in
    rw (le-ltb (b - 1) v h₁, le-ltb b v h₂, lt-ltb v b h))
    (λ (h : b ≤ v). let h₁ : b - 1 < v = omega arith in rw (lt-ltb (b - 1) v h₁) (past (ltb b v) h))
    (lt_or_ge v b)
  where
    past : (t : Bool) → b ≤ v → stop 3 at ≡ tested 3 (λ v. ltb v b) at ((cond t (stop 3 at) (next v (at + n))))
    past true h = refl
    past false h = rw (le-ltb v b h)

-- where the bound is above 0
pub below-under : (b : ℕ) → 1 ≤ b → below b ≡ under b
unfolding below under unless up_to read_number
below-under b l = λ i s at. below_raw b at l (read_groups groups 0 (drop at s)) i
