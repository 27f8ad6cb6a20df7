-- Tests and counts of numbers below a bound, as chains of iterators make them: over a range, or over the first elements of a list.
-- Assumes nothing.
use Prim.Native.Nat.{ℕ, zero, suc, ◌+◌, ◌≤◌}
use native.Mathlib.Nat.{zero-add}
use native.Mathlib.Numerals.{add-one}
use native.Mathlib.Omega.{arith}
use mathlib.Core.Path.{◌≡◌, refl, sym, ap, ap₂, ◌∙◌}
use mathlib.Core.Bool.{Bool, true, false, cond, ◌&&◌}
use mathlib.Core.List.{List, [], ◌∷◌, ◌++◌}
use lib.ListN.{length, get_or, take, length-append}
use Rattle.std.specs.List.{range_with_len, list_all, filter}
use Rattle.std.proofs.lemmas.List.{map-id, length-take-le, get_or-take}
use Rattle.std.proofs.lemmas.List.FromFn.{filter_of_map_range_with_len_more}
use Rattle.finite.specs.Tests.{all, count, tick}
use Rattle.finite.specs.Lists.{table, every}
use Rattle.finite.proofs.Lists.{as_table, table_same}
use Rattle.case.proofs.Faults.{every-table}

every-list : {A : Type 0} (f : A → Bool) (xs : List A) → list_all f xs ≡ every f xs
unfolding every
every-list f [] = refl
every-list f (x ∷ xs) = ap (◌&&◌ (f x)) (every-list f xs)

range-table : (i n : ℕ) → range_with_len i n ≡ table i n (λ x. x)
unfolding table
range-table i zero = refl
range-table i (suc n) = ap (◌∷◌ i) (rw (add-one i) (range-table (suc i) n))

pub all-range : (n : ℕ) (f : ℕ → Bool) → list_all f (range_with_len 0 n) ≡ all n f
all-range n f = every-list f _ ∙ ap (every f) (range-table 0 n) ∙ every-table f n (λ x. x)

pub all-front : (f : ℕ → Bool) (xs : List ℕ) (n d : ℕ) → n ≤ length xs → list_all f (take n xs) ≡ all n (λ i. f (get_or xs i d))
all-front f xs n d h =
    every-list f _
    ∙ ap (every f) (as_table (take n xs) d n (length-take-le n xs h) ∙ table_same 0 n _ _ (λ i l m. get_or-take n xs i d (omega arith)))
    ∙ every-table f n (λ i. get_or xs i d)

filter-more : (f : ℕ → Bool) (n : ℕ) → filter f (range_with_len 0 (n + 1)) ≡ filter f (range_with_len 0 n) ++ cond (f n) (n ∷ []) []
filter-more f n =
    rw (map-id (range_with_len 0 (n + 1)), map-id (range_with_len 0 n)) at (filter_of_map_range_with_len_more f (λ (x : ℕ). x) 0 n n (zero-add n))

length-one : (b : Bool) (n : ℕ) → length (cond b (n ∷ []) []) ≡ tick b
length-one true n = refl
length-one false n = refl

pub count-range : (n : ℕ) (f : ℕ → Bool) → length (filter f (range_with_len 0 n)) ≡ count n f
unfolding count
count-range zero f = refl
count-range (suc n) f =
    ap (λ (j : ℕ). length (filter f (range_with_len 0 j))) (sym (add-one n)) ∙ ap length (filter-more f n)
    ∙ length-append (filter f (range_with_len 0 n)) _ ∙ ap₂ ◌+◌ (count-range n f) (length-one (f n) n)
