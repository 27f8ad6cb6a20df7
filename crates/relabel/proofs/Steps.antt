-- What one turn of a loop stores.
-- Assumes nothing.
use Prim.Native.Nat.{ℕ, ◌-◌, ◌%◌, ◌^◌, ◌<◌}
use mathlib.Core.Path.{◌≡◌, sym, ap, subst, ◌∙◌}
use mathlib.Core.List.{List}
use lib.ListN.{get_or}
use lib.Bits.{bit_and, and_mask}
use Rattle.permutation.specs.Permutation.{image, inverse, labels}
use Rattle.permutation.proofs.Laws.{image_label}

-- a row under the mask of the events below k
pub masked : (row mask k v : ℕ) → mask ≡ 2 ^ k - 1 → v ≡ bit_and row mask → v ≡ row % 2 ^ k
masked row mask k v e h = h ∙ ap (bit_and row) e ∙ and_mask row k

-- x is the label that q sends to y
module _ (q back x y : ℕ) (ex : x ≡ image back y) (eb : back ≡ inverse q) where
  pub pulled_from : x ≡ image (inverse q) y
  pulled_from = ex ∙ ap (λ (b : ℕ). image b y) eb

  pub pulled : (xs : List ℕ) → get_or xs x 0 ≡ get_or xs (image (inverse q) y) 0
  pulled xs = ap (λ (j : ℕ). get_or xs j 0) pulled_from

pub pulled_below : (back x y : ℕ) → x ≡ image back y → y < labels → x < labels
pulled_below back x y e h = subst (λ (z : ℕ). z < labels) (sym e) (image_label back y h)
