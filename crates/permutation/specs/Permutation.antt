-- The permutations of 0 to 3, in dictionary order.
-- Assumes nothing.
use Rattle.std.specs.Prelude.{Bool, true, false, ◌&&◌, cond, List, [], ◌∷◌, ℕ, zero, suc, ◌+◌, ◌*◌, ltb, eqb, get_or}
use Rattle.finite.specs.Tests.{all}

-- how many labels a permutation moves, and how many permutations there are
abbrev pub labels : ℕ
labels = 4

abbrev pub permutations : ℕ
permutations = 24

-- the words in dictionary order, one after the other
unfoldable pub words : List ℕ
words =
    0 ∷ 1 ∷ 2 ∷ 3 ∷ 0 ∷ 1 ∷ 3 ∷ 2 ∷ 0 ∷ 2 ∷ 1 ∷ 3 ∷ 0 ∷ 2 ∷ 3 ∷ 1 ∷ 0 ∷ 3 ∷ 1 ∷ 2 ∷ 0 ∷ 3 ∷ 2 ∷ 1 ∷
    1 ∷ 0 ∷ 2 ∷ 3 ∷ 1 ∷ 0 ∷ 3 ∷ 2 ∷ 1 ∷ 2 ∷ 0 ∷ 3 ∷ 1 ∷ 2 ∷ 3 ∷ 0 ∷ 1 ∷ 3 ∷ 0 ∷ 2 ∷ 1 ∷ 3 ∷ 2 ∷ 0 ∷
    2 ∷ 0 ∷ 1 ∷ 3 ∷ 2 ∷ 0 ∷ 3 ∷ 1 ∷ 2 ∷ 1 ∷ 0 ∷ 3 ∷ 2 ∷ 1 ∷ 3 ∷ 0 ∷ 2 ∷ 3 ∷ 0 ∷ 1 ∷ 2 ∷ 3 ∷ 1 ∷ 0 ∷
    3 ∷ 0 ∷ 1 ∷ 2 ∷ 3 ∷ 0 ∷ 2 ∷ 1 ∷ 3 ∷ 1 ∷ 0 ∷ 2 ∷ 3 ∷ 1 ∷ 2 ∷ 0 ∷ 3 ∷ 2 ∷ 0 ∷ 1 ∷ 3 ∷ 2 ∷ 1 ∷ 0 ∷ []

-- the label to which the permutation q sends x; a label past the last stays where it is
unfoldable pub image : ℕ → ℕ → ℕ
image q x = cond (ltb x labels) (get_or words (q * labels + x) x) x

-- the least number from k on, of n, that passes f, or k + n
unfoldable pub least_from : ℕ → (ℕ → Bool) → ℕ → ℕ
least_from zero f k = k
least_from (suc n) f k = elim (f k) [ true ↦ k | false ↦ least_from n f (suc k) ]

-- the number of the permutation that sends each label x to g x
unfoldable pub numbered : (ℕ → ℕ) → ℕ
numbered g = least_from permutations (λ s. all labels (λ x. eqb (image s x) (g x))) 0

-- first q, then r
unfoldable pub composite : ℕ → ℕ → ℕ
composite q r = numbered (λ x. image r (image q x))

-- the permutation that takes q back
unfoldable pub inverse : ℕ → ℕ
inverse q = least_from permutations (λ s. all labels (λ x. eqb (image s (image q x)) x)) 0

-- q is a permutation number and maps the labels below n onto themselves
unfoldable pub fits : ℕ → ℕ → Bool
fits q n = ltb q permutations && all n (λ x. ltb (image q x) n)

-- the permutation number q, or 0, which moves nothing, for any other
unfoldable pub known : ℕ → ℕ
known q = cond (ltb q permutations) q 0
