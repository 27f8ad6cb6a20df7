-- Laws of the signs between operands and of brackets' ends.
-- Assumes nothing.
use Prim.Native.Nat.{ℕ, ◌+◌, ◌≤◌, ◌<◌}
use native.Mathlib.Omega.{arith}
use mathlib.Core.Path.{◌≡◌, refl}
use mathlib.Core.Bool.{Bool, true, false, cond}
use mathlib.Core.List.{List}
use lib.ListN.{length}
use borrow.Author.Tests.{eqb-true}
use Rattle.number.specs.Reader.{stop, next, give, onward}
use Rattle.condition_model.specs.Reader.{byte, is, skipped, sign, choose}
use Rattle.condition_model.proofs.Parts.{inside}
use Rattle.condition_model.proofs.Progress.{Within, skip-within}
use Rattle.condition_reader.specs.Told.{sign_at}

-- a sign that was read ends within the text
pub sign_at_within : (s : List ℕ) (x y p : ℕ) → y < 256 → p ≤ length s → Within p (length s) (sign_at x y s p)
unfolding sign_at sign
sign_at_within s x y p h l = go (is x s p) (is y s (p + 1)) refl
  where
    go : (a b : Bool) → is y s (p + 1) ≡ b
        → Within p (length s) (choose a (λ s p. onward (λ _ q. next true (skipped s q)) (cond (is y s (p + 1)) (next (tt {0}) (p + 1 + 1)) (stop 21 (p + 1)))) (give false) s p)
    go true true e = rw e (skip-within s p (p + 1 + 1) (omega arith) (omega (arith, inside s (p + 1) (omega (arith, eqb-true (byte s (p + 1)) y e)))))
    go true false e = rw e tt
    go false b e = (omega arith, l)
