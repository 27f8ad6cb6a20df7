-- A table's rule, tested once over the whole table and carried to each entry.
-- Assumes nothing.
use mathlib.Core.Path.{◌≡◌}
use mathlib.Core.List.{List}
use Prim.Native.Nat.{ℕ, ◌<◌}
use lib.Dec.{T, eqb, eqb→eq}
use lib.ListN.{get_or}
use Rattle.finite.specs.Tests.{all}
use Rattle.finite.proofs.Tests.{all-T, all2_T}

-- a table of one line
pub line_at : (n : ℕ) (f : ℕ → ℕ) (xs : List ℕ) → T (all n (λ q. eqb (get_or xs q 0) (f q))) → (q : ℕ) → q < n → get_or xs q 0 ≡ f q
line_at n f xs t q h = eqb→eq (get_or xs q 0) (f q) (all-T n (λ q. eqb (get_or xs q 0) (f q)) t q h)

-- a table of n lines of m entries
pub table_at :
    (n m : ℕ) (f : ℕ → ℕ → ℕ) (xs : List (List ℕ)) (ys : List ℕ) → T (all n (λ q. all m (λ r. eqb (get_or (get_or xs q ys) r 0) (f q r)))) → (q r : ℕ)
    → q < n → r < m → get_or (get_or xs q ys) r 0 ≡ f q r
table_at n m f xs ys t q r hq hr =
    eqb→eq (get_or (get_or xs q ys) r 0) (f q r) (all2_T n m (λ q r. eqb (get_or (get_or xs q ys) r 0) (f q r)) t q r hq hr)
