-- Lists in arrays: a list with zeros behind it, and lists each in its own part of an array.
-- Assumes nothing.
use Prim.Native.Nat.{ℕ, zero, suc, ◌+◌, ◌-◌, ◌*◌, ◌≤◌, ◌<◌}
use native.Mathlib.Nat.{zero-mul}
use native.Mathlib.Omega.{arith}
use mathlib.Core.Path.{◌≡◌, refl, ap, sym, ◌∙◌}
use mathlib.Core.List.{List, [], ◌∷◌, ◌++◌, map, append_assoc, append-nil}
use lib.ListN.{length, get_or, set, take, drop, replicate, length-append, length-set, length-replicate, length-map, get_or-append, replicate-append-replicate}
use lib.Seq.{set-append_seam, set-append_left, get_or-append-add, take_at, drop_at}
use borrow.Rule.Slice.PartMut.{put_mid}
use Rattle.model.specs.Limits.{most_events}
use Rattle.case.specs.Held.{pad, rows_of}

-- ---- a list with zeros behind it
pub length-pad : (n : ℕ) (xs : List ℕ) → length xs ≤ n → length (pad n xs) ≡ n
unfolding pad
length-pad n xs h = simp (length-append, length-replicate) (omega arith)

pub pad_get : (n : ℕ) (xs : List ℕ) (i : ℕ) → i < length xs → get_or (pad n xs) i 0 ≡ get_or xs i 0
unfolding pad
pad_get n xs i h = get_or-append xs _ 0 i h

-- nothing but zeros stands behind the list
pub pad_past : (n : ℕ) (xs : List ℕ) (i : ℕ) → length xs ≤ i → get_or (pad n xs) i 0 ≡ 0
unfolding pad
pad_past n xs i h =
    let e : i ≡ length xs + (i - length xs) = omega arith in
    ap (λ (j : ℕ). get_or (pad n xs) j 0) e ∙ get_or-append-add xs (replicate (n - length xs) 0) (i - length xs) 0 ∙ zeros (n - length xs) (i - length xs)
  where
    zeros : (n i : ℕ) → get_or {A = ℕ} (replicate n 0) i 0 ≡ 0
    zeros zero i = refl
    zeros (suc n) zero = refl
    zeros (suc n) (suc i) = zeros n i

-- an element of the list is stored
pub pad-put : (n : ℕ) (xs : List ℕ) (i v : ℕ) → i < length xs → set (pad n xs) i v ≡ pad n (set xs i v)
unfolding pad
pad-put n xs i v h = rw (set-append_left xs (replicate (n - length xs) 0) i v h, length-set xs i v)

-- what is stored behind the list is the next of the list
pub pad-set : (n : ℕ) (xs : List ℕ) (i v : ℕ) → length xs ≡ i → i < n → set (pad n xs) i v ≡ pad n (xs ++ (v ∷ []))
unfolding pad
pad-set n xs i v e h =
    let z : n - length xs ≡ suc (n - (length xs + 1)) = omega arith in
    simp (z, ← e, set-append_seam, length-append, append_assoc)

-- ---- a field of each element

pub map_snoc : {A : Type 0} (f : A → ℕ) (as' : List A) (a : A) → map f (as' ++ (a ∷ [])) ≡ map f as' ++ (f a ∷ [])
map_snoc f [] a = refl
map_snoc f (x ∷ as') a = ap (λ (l : List ℕ). f x ∷ l) (map_snoc f as' a)

pub map-set : {A B : Type 0} (f : A → B) (as' : List A) (i : ℕ) (a : A) → map f (set as' i a) ≡ set (map f as') i (f a)
map-set f [] i a = refl
map-set f (x ∷ as') zero a = refl
map-set {B = B} f (x ∷ as') (suc i) a = ap (λ (l : List B). f x ∷ l) (map-set f as' i a)

-- one more element
pub pad-next : {A : Type 0} (f : A → ℕ) (n : ℕ) (as' : List A) (a : A) (i : ℕ) → length as' ≡ i → i < n
    → set (pad n (map f as')) i (f a) ≡ pad n (map f (as' ++ (a ∷ [])))
pad-next f n as' a i e h = pad-set n (map f as') i (f a) (length-map as' f ∙ e) h ∙ ap (pad n) (sym (map_snoc f as' a))

-- another element in the place of one
pub field_put : {A : Type 0} (f : A → ℕ) (n : ℕ) (as' : List A) (i : ℕ) (a : A) → i < length as' → set (pad n (map f as')) i (f a) ≡ pad n (map f (set as' i a))
field_put f n as' i a h = pad-put n (map f as') i (f a) (rw (length-map as' f) h) ∙ ap (pad n) (sym (map-set f as' i a))

-- nothing but zeros stands behind the last
pub field_past : {A : Type 0} (f : A → ℕ) (n : ℕ) (as' : List A) (i : ℕ) → length as' ≤ i → get_or (pad n (map f as')) i 0 ≡ 0
field_past f n as' i h = pad_past n (map f as') i (rw (length-map as' f) h)

-- ---- zeros
take-zeros : (a b : ℕ) → a ≤ b → take {A = ℕ} a (replicate b 0) ≡ replicate a 0
take-zeros zero b h = refl
take-zeros (suc a) zero h = absurd (omega arith)
take-zeros (suc a) (suc b) h = ap (λ (l : List ℕ). 0 ∷ l) (take-zeros a b (omega arith))

drop-zeros : (a b : ℕ) → drop {A = ℕ} a (replicate b 0) ≡ replicate (b - a) 0
drop-zeros zero b = let z : b - 0 ≡ b = omega arith in rw z
drop-zeros (suc a) zero = let z : 0 - suc a ≡ 0 = omega arith in rw z
drop-zeros (suc a) (suc b) = let z : suc b - suc a ≡ b - a = omega arith in rw z (drop-zeros a b)

-- zeros behind zeros
pub pad-zeros : (n k : ℕ) → k ≤ n → pad n (replicate k 0) ≡ replicate n 0
unfolding pad
pad-zeros n k h =
    let e : k + (n - k) ≡ n = omega arith in
    rw length-replicate (replicate-append-replicate k (n - k) 0 ∙ ap (λ (i : ℕ). replicate i 0) e)

-- what is filled into zeros is padded
pub padded : (n k : ℕ) (xs : List ℕ) → length xs ≡ k → xs ++ drop k (replicate n 0) ≡ pad n xs
unfolding pad
padded n k xs e = rw (drop-zeros, e)

-- ---- the next part of an array, n places behind the front: it holds zeros, and what is stored there is behind the front
module _ (total n : ℕ) (array front : List ℕ) (a w : ℕ) (h : array ≡ pad total front) (l : length front ≡ a) (ew : w ≡ n) (fits : a + n ≤ total) where
  pub part-zeros : take w (drop a array) ≡ replicate n 0
  unfolding pad
  part-zeros = rw (h, drop_at front _ a l, l, ew) (take-zeros n (total - a) (omega arith))

  pub part-stored : (part : List ℕ) → length part ≡ n → put_mid a w array part ≡ pad total (front ++ part)
  unfolding pad
  part-stored part lp =
      let before : take a array ≡ front = rw h (take_at front _ a l) in
      let left : total - a - n ≡ total - (a + n) = omega arith in
      let behind : drop w (drop a array) ≡ replicate (total - (a + n)) 0 = rw (h, drop_at front _ a l, l, ew, drop-zeros) (rw left) in
      let size : length (front ++ part) ≡ a + n = simp length-append (omega (arith, l, lp)) in
      rw (before, behind, size, append_assoc)

-- ---- lists each at n places
pub rows_of-snoc : (n : ℕ) (rs : List (List ℕ)) (r : List ℕ) → rows_of n (rs ++ (r ∷ [])) ≡ rows_of n rs ++ pad n r
unfolding rows_of
rows_of-snoc n [] r = append-nil (pad n r)
rows_of-snoc n (x ∷ rs) r = rw (rows_of-snoc n rs r, append_assoc)

-- as many places as n for each list
pub rows-length : (n : ℕ) (rs : List (List ℕ)) → ((y : ℕ) → y < length rs → length (get_or rs y []) ≤ n) → length (rows_of n rs) ≡ length rs * n
unfolding rows_of
rows-length n [] b = sym (zero-mul n)
rows-length n (r ∷ rs) b =
    let m = length-pad n r (b 0 (omega arith)) in
    let e = rows-length n rs (λ y l. b (suc y) (omega arith)) in
    length-append (pad n r) (rows_of n rs) ∙ rw (m, e) (omega arith)

-- a part is as long as the stride
pub step-size : (p : ℕ) → p * most_events + most_events - p * most_events ≡ most_events
step-size p = omega arith
