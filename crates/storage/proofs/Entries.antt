-- What holds of every entry of an array.
-- Assumes nothing.
use Prim.Native.Nat.{ℕ, zero, suc, ◌-◌, ◌<◌}
use native.Mathlib.Omega.{arith}
use native.Mathlib.Decide.{dec_lt}
use mathlib.Core.Path.{sym, subst}
use mathlib.Core.List.{List, [], ◌∷◌}
use lib.ListN.{length, get_or, replicate, get_or-eq_default}
use Rattle.finite.specs.Lists.{All}
use Rattle.finite.proofs.All.{all_at, all_append}
use Rattle.case.specs.Held.{pad, rows_of}

-- what holds of 0 and of every number of the lists holds at every place of the array, past its end too
module _ (P : ℕ → Type 0) (p : P 0) where
  padded : (n : ℕ) (xs : List ℕ) → All P xs → All P (pad n xs)
  unfolding pad
  padded n xs h = all_append P xs (replicate (n - length xs) 0) h (zeros (n - length xs))
    where
      zeros : (n : ℕ) → All P (replicate n 0)
      zeros zero = tt
      zeros (suc n) = (p, zeros n)

  in_rows : (n : ℕ) (rs : List (List ℕ)) → All (λ r. All P r) rs → All P (rows_of n rs)
  unfolding rows_of
  in_rows n [] h = tt
  in_rows n (r ∷ rs) h = all_append P (pad n r) (rows_of n rs) (padded n r h.0) (in_rows n rs h.1)

  pub everywhere : (total n : ℕ) (rs : List (List ℕ)) → All (λ r. All P r) rs → (i : ℕ) → P (get_or (pad total (rows_of n rs)) i 0)
  everywhere total n rs h i = by (dec_lt i (length (pad total (rows_of n rs))))
    where
      by : Dec (i < length (pad total (rows_of n rs))) → P (get_or (pad total (rows_of n rs)) i 0)
      by (yes l) = all_at P (pad total (rows_of n rs)) (padded total (rows_of n rs) (in_rows n rs h)) i 0 l
      by (no d) = subst P (sym (get_or-eq_default (pad total (rows_of n rs)) 0 (omega arith))) p
