-- Laws of lists, of `table` and of `each`.
-- Assumes nothing.
use Prim.Native.Nat.{ℕ, zero, suc, ◌+◌, ◌-◌, ◌≤◌, ◌<◌}
use native.Mathlib.Nat.{add-zero, add-suc, suc-add, zero-add, not-suc-le-zero, le_of_suc-le-suc}
use native.Mathlib.Numerals.{add-one}
use native.Mathlib.Omega.{arith}
use mathlib.Core.Path.{◌≡◌, refl, sym, ap, ap₂, ◌∙◌}
use mathlib.Core.List.{List, [], ◌∷◌, ◌++◌, append_assoc}
use lib.ListN.{length, get_or, length-append}
use lib.Seq.{ext_get_or}
use Rattle.finite.specs.Lists.{table, each}

-- a list with one more is one longer
pub one_longer : {A : Type 0} (l : List A) (a : A) → length (l ++ (a ∷ [])) ≡ suc (length l)
one_longer l a = length-append l (a ∷ []) ∙ add-one (length l)

module _ {A : Type 0} where
  pub table_at : (i j : ℕ) (f : ℕ → A) (x : ℕ) (d : A) → x < j → get_or (table i j f) x d ≡ f (i + x)
  unfolding table
  table_at i zero f x d h = absurd (not-suc-le-zero h)
  table_at i (suc j) f zero d h = simp add-zero
  table_at i (suc j) f (suc x) d h = table_at (suc i) j f x d (le_of_suc-le-suc h) ∙ simp (add-suc, suc-add)

  -- of a table that starts at 0
  pub table_get : (j : ℕ) (f : ℕ → A) (x : ℕ) (d : A) → x < j → get_or (table 0 j f) x d ≡ f x
  table_get j f x d h = table_at 0 j f x d h ∙ ap f (zero-add x)

  pub table_past : (i j : ℕ) (f : ℕ → A) (x : ℕ) (d : A) → j ≤ x → get_or (table i j f) x d ≡ d
  unfolding table
  table_past i zero f x d h = refl
  table_past i (suc j) f zero d h = absurd (not-suc-le-zero h)
  table_past i (suc j) f (suc x) d h = table_past (suc i) j f x d (le_of_suc-le-suc h)

  pub table-length : (i j : ℕ) (f : ℕ → A) → length (table i j f) ≡ j
  unfolding table
  table-length i zero f = refl
  table-length i (suc j) f = ap suc (table-length (suc i) j f)

  pub table_same : (i j : ℕ) (f g : ℕ → A) → ((y : ℕ) → i ≤ y → y < i + j → f y ≡ g y) → table i j f ≡ table i j g
  unfolding table
  table_same i zero f g h = refl
  table_same i (suc j) f g h = ap₂ ◌∷◌ (h i (omega arith) (omega arith)) (table_same (suc i) j f g (λ y l m. h y (omega arith) (omega arith)))

  -- a list is the table of its elements
  pub as_table : (l : List A) (d : A) (j : ℕ) → length l ≡ j → l ≡ table 0 j (λ y. get_or l y d)
  as_table l d j e =
      ext_get_or d l (table 0 j (λ y. get_or l y d)) (e ∙ sym (table-length 0 j _))
      (λ i h. sym (table_get j (λ y. get_or l y d) i d (rw e at h)))

  -- one more place
  pub table-snoc : (i j : ℕ) (f : ℕ → A) → table i (suc j) f ≡ table i j f ++ (f (i + j) ∷ [])
  unfolding table
  table-snoc i zero f = rw add-zero
  table-snoc i (suc j) f = ap (λ (l : List A). f i ∷ l) (table-snoc (suc i) j f ∙ simp (add-suc, suc-add))

  pub table_more : (i : ℕ) (f : ℕ → A) → table 0 (i + 1) f ≡ table 0 i f ++ (f i ∷ [])
  table_more i f = rw (add-one, table-snoc) (simp zero-add)

  -- what is left of a table of n places, from i on
  pub table_turn : (i n : ℕ) (f : ℕ → A) → i < n → table i (n - i) f ≡ f i ∷ table (i + 1) (n - (i + 1)) f
  unfolding table
  table_turn i n f h = let z : n - i ≡ suc (n - (i + 1)) = omega arith in rw (z, add-one i)

  pub table-end : (i n : ℕ) (f : ℕ → A) → n ≤ i → table i (n - i) f ≡ []
  unfolding table
  table-end i n f h = let z : n - i ≡ 0 = omega arith in rw z

  pub each_append : (f : A → List ℕ) (xs ys : List A) → each f (xs ++ ys) ≡ each f xs ++ each f ys
  unfolding each
  each_append f [] ys = refl
  each_append f (x ∷ xs) ys = ap (λ (l : List ℕ). f x ++ l) (each_append f xs ys) ∙ sym (append_assoc (f x) (each f xs) (each f ys))
