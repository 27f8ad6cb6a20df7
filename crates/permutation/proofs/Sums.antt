-- Sums over the labels below a count, and that a permutation of the labels leaves them.
-- Assumes nothing.
use mathlib.Core.Path.{◌≡◌, refl, sym, ap, ap₂, ◌∙◌}
use mathlib.Core.Bool.{cond}
use Rattle.finite.proofs.Tests.{cond_same}
use Prim.Native.Nat.{ℕ, zero, suc, ◌+◌, ◌<◌}
use native.Mathlib.Omega.{arith}
use native.Mathlib.Decide.{ℕ_discrete}
use native.Mathlib.Nat.{not-suc-le-zero}
use lib.Dec.{T, eqb, eqb→eq}
use borrow.Author.Tests.{eq-eqb, ne_eqb}
use Rattle.finite.proofs.Tests.{same_test, eq-T}
use Rattle.permutation.specs.Permutation.{image, inverse, fits}
use Rattle.permutation.proofs.Laws.{inverse_image, image_inverse, fits_below, fits_image, fits-inverse}

abbrev pub total : ℕ → (ℕ → ℕ) → ℕ
total zero f = 0
total (suc n) f = f n + total n f

pub total_same : (n : ℕ) (f g : ℕ → ℕ) → ((x : ℕ) → x < n → f x ≡ g x) → total n f ≡ total n g
total_same zero f g e = refl
total_same (suc n) f g e = ap₂ ◌+◌ (e n (omega arith)) (total_same n f g (λ x h. e x (omega arith)))

total_none : (n : ℕ) → total n (λ x. 0) ≡ 0
total_none zero = refl
total_none (suc n) = let e = total_none n in omega arith

total_add : (n : ℕ) (f g : ℕ → ℕ) → total n (λ x. f x + g x) ≡ total n f + total n g
total_add zero f g = refl
total_add (suc n) f g = let e = total_add n f g in omega arith

-- a sum of sums, the other way round
total_swap : (n m : ℕ) (g : ℕ → ℕ → ℕ) → total n (λ x. total m (g x)) ≡ total m (λ y. total n (λ x. g x y))
total_swap zero m g = sym (total_none m)
total_swap (suc n) m g = ap (λ (k : ℕ). total m (g n) + k) (total_swap n m g) ∙ sym (total_add m (g n) (λ y. total n (λ x. g x y)))

-- a sum with one term
total_miss : (n k v : ℕ) → n < suc k → total n (λ y. cond (eqb y k) v 0) ≡ 0
total_miss zero k v h = refl
total_miss (suc n) k v h = rw (ne_eqb n k (λ e. omega arith)) (let e = total_miss n k v (omega arith) in omega arith)

total_one : (n k v : ℕ) → k < n → total n (λ y. cond (eqb y k) v 0) ≡ v
total_one zero k v h = absurd (not-suc-le-zero h)
total_one (suc n) k v h = here_or_below (ℕ_discrete n k) (λ l. total_one n k v l)
  where
    here_or_below : Dec (n ≡ k) → (k < n → total n (λ y. cond (eqb y k) v 0) ≡ v) → total (suc n) (λ y. cond (eqb y k) v 0) ≡ v
    here_or_below (yes e) below = rw (eq-eqb n k e) (let z = total_miss n k v (omega arith) in omega arith)
    here_or_below (no d) below = rw (ne_eqb n k d) (let e = below (omega arith) in omega arith)

pub total_image : (q n : ℕ) → T (fits q n) → (f : ℕ → ℕ) → total n (λ x. f (image q x)) ≡ total n f
total_image q n t f =
    total_same n (λ x. f (image q x)) (λ x. total n (λ y. cond (eqb y (image q x)) (f (image q x)) 0))
    (λ x h. sym (total_one n (image q x) (f (image q x)) (fits_image q n t x h)))
    ∙ total_swap n n (λ x y. cond (eqb y (image q x)) (f (image q x)) 0)
    ∙ total_same n (λ y. total n (λ x. cond (eqb y (image q x)) (f (image q x)) 0)) f column
  where
    moved_test : (x y : ℕ) → eqb y (image q x) ≡ eqb x (image (inverse q) y)
    moved_test x y =
        same_test (eqb y (image q x)) (eqb x (image (inverse q) y))
        (λ u. eq-T x (image (inverse q) y) (sym (inverse_image q (fits_below q n t) x) ∙ ap (image (inverse q)) (sym (eqb→eq y (image q x) u))))
        (λ u. eq-T y (image q x) (sym (image_inverse q (fits_below q n t) y) ∙ ap (image q) (sym (eqb→eq x (image (inverse q) y) u))))

    column : (y : ℕ) → y < n → total n (λ x. cond (eqb y (image q x)) (f (image q x)) 0) ≡ f y
    column y h =
        total_same n (λ x. cond (eqb y (image q x)) (f (image q x)) 0) (λ x. cond (eqb x (image (inverse q) y)) (f y) 0)
        (λ x l.
        cond_same (eqb y (image q x)) (eqb x (image (inverse q) y)) (f (image q x)) (f y) 0 (moved_test x y)
        (λ u. ap f (sym (eqb→eq y (image q x) u))))
        ∙ total_one n (image (inverse q) y) (f y) (fits_image (inverse q) n (fits-inverse q n t) y h)
