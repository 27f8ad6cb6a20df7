-- The laws of the permutations. Each is for every label, and those that speak of a label count for every count.
-- Assumes nothing.
use mathlib.Core.Path.{◌≡◌, refl, sym, subst, ap, ap₂, ◌∙◌, fun_ext}
use mathlib.Core.Bool.{Bool, true, false, ◌&&◌, ◌||◌, not, cond}
use Prim.Native.Nat.{ℕ, zero, suc, ◌+◌, ◌*◌, ◌<◌, ◌≤◌}
use native.Mathlib.Numerals.{add-one}
use mathlib.Core.List.{[], ◌∷◌, ◌++◌}
use Rattle.std.specs.List.{range_with_len, list_all}
use Rattle.std.proofs.lemmas.List.{map-id}
use Rattle.std.proofs.lemmas.List.FromFn.{map-range_with_len_more}
use Rattle.std.proofs.lemmas.List.Folds.{list_all-append}
use native.Mathlib.Omega.{arith}
use native.Mathlib.Nat.{not-le_of_lt, zero-add}
use native.Mathlib.Decide.{dec_lt}
use lib.Dec.{T, ltb, eqb, eqb→eq, eqb_refl, ltb→lt, lt→ltb, lit<, lit≤}
use lib.ListN.{get_or-eq_default}
use borrow.Author.Tests.{le-ltb, lt-ltb}
use Rattle.finite.specs.Tests.{all}
use Rattle.finite.proofs.Tests.{all-T, all2_T, T-all, all-fails, T_true, and_left, and_right, T_and, and_four, first_of, eq-T, same_test, all_moved}
use Rattle.permutation.specs.Permutation.{labels, permutations, words, image, least_from, numbered, composite, inverse, fits, known}

-- The paper's examples
pub examples : (composite 1 6 ≡ 7) × (composite 9 9 ≡ 16) × (composite 1 2 ≡ 3) × (composite 2 1 ≡ 4) × (inverse 3 ≡ 4)
unfolding composite inverse numbered least_from image words all
examples = (refl, refl, refl, refl, refl)

-- One test of each pair of permutations: the composite is a permutation number and sends each label where the two send it one after the other
composes : ℕ → ℕ → Bool
composes q r = ltb (composite q r) permutations && all labels (λ x. eqb (image (composite q r) x) (image r (image q x)))

composes_all : T (all permutations (λ q. all permutations (composes q)))
unfolding composes composite numbered least_from image words all
composes_all = tt

-- One test of each permutation: its inverse is one, they take one another back, and labels go to labels
inverts : ℕ → Bool
inverts q =
    ltb (inverse q) permutations
    && (all labels (λ x. eqb (image (inverse q) (image q x)) x)
    && (all labels (λ x. eqb (image q (image (inverse q) x)) x)
    && all labels (λ x. ltb (image q x) labels)))

inverts_all : T (all permutations inverts)
unfolding inverts inverse least_from image words all
inverts_all = tt

-- One test of each pair: two permutations with the same images are one
separate : ℕ → ℕ → Bool
separate s t = eqb s t || not (all labels (λ x. eqb (image s x) (image t x)))

separate_all : T (all permutations (λ s. all permutations (separate s)))
unfolding separate image words all
separate_all = tt

pub image_far : (q x : ℕ) → labels ≤ x → image q x ≡ x
unfolding image
image_far q x h = rw (le-ltb x labels h)

-- Two maps that agree at each label, by a test, and past the labels, agree
pub everywhere : (f g : ℕ → ℕ) → T (all labels (λ x. eqb (f x) (g x))) → ((x : ℕ) → labels ≤ x → f x ≡ g x) → (x : ℕ) → f x ≡ g x
everywhere f g t far x = near (dec_lt x labels)
  where
    near : Dec (x < labels) → f x ≡ g x
    near (yes h) = eqb→eq (f x) (g x) (all-T labels (λ y. eqb (f y) (g y)) t x h)
    near (no d) = far x (omega arith)

image_image_far : (q r x : ℕ) → labels ≤ x → image r (image q x) ≡ x
image_image_far q r x h = ap (image r) (image_far q x h) ∙ image_far r x h

pub image_identity : (x : ℕ) → image 0 x ≡ x
unfolding image words all
image_identity = everywhere (image 0) (λ x. x) tt (image_far 0)

module _ (q r : ℕ) (hq : q < permutations) (hr : r < permutations) where
  composed : T (composes q r)
  composed = all2_T permutations permutations composes composes_all q r hq hr

  pub composite-below : composite q r < permutations
  unfolding composes
  composite-below = ltb→lt (composite q r) permutations (and_left (ltb (composite q r) permutations) _ composed)

  pub composite_image : (x : ℕ) → image (composite q r) x ≡ image r (image q x)
  unfolding composes
  composite_image =
      everywhere (image (composite q r)) (λ x. image r (image q x)) (and_right (ltb (composite q r) permutations) _ composed)
      (λ x h. image_far (composite q r) x h ∙ sym (image_image_far q r x h))

  pub same_number : ((x : ℕ) → image q x ≡ image r x) → q ≡ r
  unfolding separate
  same_number e =
      eqb→eq q r
      (first_of (eqb q r) (all labels (λ x. eqb (image q x) (image r x)))
      (all2_T permutations permutations separate separate_all q r hq hr)
      (T-all labels (λ x. eqb (image q x) (image r x)) (λ x h. subst (λ (y : ℕ). T (eqb (image q x) y)) (e x) (eqb_refl (image q x)))))

module _ (q : ℕ) (hq : q < permutations) where
  -- the test's parts
  inverted :
      T (ltb (inverse q) permutations)
      × T (all labels (λ x. eqb (image (inverse q) (image q x)) x))
      × T (all labels (λ x. eqb (image q (image (inverse q) x)) x))
      × T (all labels (λ x. ltb (image q x) labels))
  unfolding inverts
  inverted =
      and_four (ltb (inverse q) permutations) (all labels (λ x. eqb (image (inverse q) (image q x)) x))
      (all labels (λ x. eqb (image q (image (inverse q) x)) x)) (all labels (λ x. ltb (image q x) labels)) (all-T permutations inverts inverts_all q hq)

  pub inverse-below : inverse q < permutations
  inverse-below = ltb→lt (inverse q) permutations inverted.0

  pub inverse_image : (x : ℕ) → image (inverse q) (image q x) ≡ x
  inverse_image = everywhere (λ x. image (inverse q) (image q x)) (λ x. x) inverted.1 (image_image_far q (inverse q))

  pub image_inverse : (x : ℕ) → image q (image (inverse q) x) ≡ x
  image_inverse = everywhere (λ x. image q (image (inverse q) x)) (λ x. x) inverted.2 (image_image_far (inverse q) q)

  pub image_below : (x : ℕ) → x < labels → image q x < labels
  image_below x h = ltb→lt (image q x) labels (all-T labels (λ x. ltb (image q x) labels) inverted.3 x h)

  pub image_injective : (x y : ℕ) → image q x ≡ image q y → x ≡ y
  image_injective x y e = sym (inverse_image x) ∙ ap (image (inverse q)) e ∙ inverse_image y

  -- an equality test of labels is one of their images
  pub image_eqb : (x y : ℕ) → eqb (image q x) (image q y) ≡ eqb x y
  image_eqb x y =
      same_test (eqb (image q x) (image q y)) (eqb x y)
      (λ t. eq-T x y (image_injective x y (eqb→eq (image q x) (image q y) t)))
      (λ t. eq-T (image q x) (image q y) (ap (image q) (eqb→eq x y t)))

  pub composite_identity_left : composite 0 q ≡ q
  composite_identity_left =
      same_number (composite 0 q) q (composite-below 0 q (lit< tt) hq) hq
      (λ x. composite_image 0 q (lit< tt) hq x ∙ ap (image q) (image_identity x))

  pub composite_identity_right : composite q 0 ≡ q
  composite_identity_right =
      same_number (composite q 0) q (composite-below q 0 hq (lit< tt)) hq
      (λ x. composite_image q 0 hq (lit< tt) x ∙ image_identity (image q x))

  pub composite-inverse : composite q (inverse q) ≡ 0
  composite-inverse =
      same_number (composite q (inverse q)) 0 (composite-below q (inverse q) hq inverse-below) (lit< tt)
      (λ x. composite_image q (inverse q) hq inverse-below x ∙ inverse_image x ∙ sym (image_identity x))

pub composite_assoc :
    (q r s : ℕ) → q < permutations → r < permutations → s < permutations → composite (composite q r) s ≡ composite q (composite r s)
composite_assoc q r s hq hr hs =
    let qr = composite-below q r hq hr in
    let rs = composite-below r s hr hs in
    same_number (composite (composite q r) s) (composite q (composite r s)) (composite-below _ _ qr hs) (composite-below _ _ hq rs)
    (λ x.
    composite_image (composite q r) s qr hs x ∙ ap (image s) (composite_image q r hq hr x)
    ∙ sym (composite_image r s hr hs (image q x)) ∙ sym (composite_image q (composite r s) hq rs x))

-- What fits, by the test's parts
pub fits_far : (q n : ℕ) → permutations ≤ q → fits q n ≡ false
unfolding fits
fits_far q n h = rw (le-ltb q permutations h)

pub fits_no : (q n x : ℕ) → q < permutations → x < n → n ≤ image q x → fits q n ≡ false
unfolding fits
fits_no q n x hq hx h =
    rw (lt-ltb q permutations hq) (all-fails n (λ y. ltb (image q y) n) x hx (λ t. not-le_of_lt (ltb→lt (image q x) n t) h))

pub fits_of : (q n : ℕ) → q < permutations → ((x : ℕ) → x < n → image q x < n) → T (fits q n)
unfolding fits
fits_of q n hq h =
    T_and (ltb q permutations) _ (lt→ltb q permutations hq)
    (T-all n (λ y. ltb (image q y) n) (λ x l. lt→ltb (image q x) n (h x l)))

pub fits_yes : (q n : ℕ) → q < permutations → ((x : ℕ) → x < n → image q x < n) → fits q n ≡ true
fits_yes q n hq h = T_true (fits_of q n hq h)

-- Among all labels and more, each permutation stays
image_many : (q n : ℕ) → q < permutations → labels ≤ n → (x : ℕ) → x < n → image q x < n
image_many q n hq l x h = near (dec_lt x labels)
  where
    near : Dec (x < labels) → image q x < n
    near (yes b) = let i = image_below q hq x b in omega arith
    near (no d) = let e = image_far q x (omega arith) in omega arith

pub fits_many : (q n : ℕ) → q < permutations → labels ≤ n → fits q n ≡ true
fits_many q n hq l = fits_yes q n hq (image_many q n hq l)

-- below a permutation's number it is the test of each label
pub fits_by : (q n : ℕ) → q < permutations → all n (λ x. ltb (image q x) n) ≡ fits q n
unfolding fits
fits_by q n hq = rw (lt-ltb q permutations hq)

-- a test of each number of a range is one of each below its end
and-true : (y : Bool) → (y && true) ≡ y
and-true true = refl
and-true false = refl

range-more : (n : ℕ) → range_with_len 0 (n + 1) ≡ range_with_len 0 n ++ (n ∷ [])
range-more n = rw (map-id (range_with_len 0 (n + 1)), map-id (range_with_len 0 n)) at (map-range_with_len_more (λ (x : ℕ). x) 0 n n (zero-add n))

pub all-range : (n : ℕ) (f : ℕ → Bool) → list_all f (range_with_len 0 n) ≡ all n f
unfolding all
all-range zero f = refl
all-range (suc n) f =
    ap (λ (j : ℕ). list_all f (range_with_len 0 j)) (sym (add-one n)) ∙ ap (list_all f) (range-more n) ∙ list_all-append f (range_with_len 0 n) (n ∷ [])
    ∙ ap₂ ◌&&◌ (all-range n f) (and-true (f n))

module _ (q n : ℕ) (f : T (fits q n)) where
  pub fits_below : q < permutations
  unfolding fits
  fits_below = ltb→lt q permutations (and_left (ltb q permutations) _ f)

  pub fits_image : (x : ℕ) → x < n → image q x < n
  unfolding fits
  fits_image x h = ltb→lt (image q x) n (all-T n (λ y. ltb (image q y) n) (and_right (ltb q permutations) _ f) x h)

pub fits_identity : (n : ℕ) → T (fits 0 n)
fits_identity n = fits_of 0 n (lit< tt) (λ x h. subst (λ (y : ℕ). y < n) (sym (image_identity x)) h)

pub fits-composite : (q r n : ℕ) → T (fits q n) → T (fits r n) → T (fits (composite q r) n)
fits-composite q r n f g =
    fits_of (composite q r) n (composite-below q r (fits_below q n f) (fits_below r n g))
    (λ x h.
    subst (λ (y : ℕ). y < n) (sym (composite_image q r (fits_below q n f) (fits_below r n g) x))
    (fits_image r n g (image q x) (fits_image q n f x h)))

-- A permutation that maps the labels below n among themselves does so backwards too: one test of each permutation and each count of labels
fits_back : ℕ → ℕ → Bool
fits_back q n = fits (inverse q) n || not (fits q n)

fits_back_all : T (all permutations (λ q. all (suc labels) (fits_back q)))
unfolding fits_back fits inverse least_from image words all
fits_back_all = tt

pub fits-inverse : (q n : ℕ) → T (fits q n) → T (fits (inverse q) n)
unfolding fits_back
fits-inverse q n f = few (dec_lt n (suc labels))
  where
    hq : q < permutations
    hq = fits_below q n f

    few : Dec (n < suc labels) → T (fits (inverse q) n)
    few (yes h) = first_of (fits (inverse q) n) (fits q n) (all2_T permutations (suc labels) fits_back fits_back_all q n hq h) f
    few (no d) = fits_of (inverse q) n (inverse-below q hq) (image_many (inverse q) n (inverse-below q hq) (omega arith))

-- A test of each label below n is one of each image
pub all_image : (q n : ℕ) → T (fits q n) → (f : ℕ → Bool) → all n (λ x. f (image q x)) ≡ all n f
all_image q n t =
    all_moved n (image q) (image (inverse q)) (fits_image q n t) (fits_image (inverse q) n (fits-inverse q n t)) (λ x h. image_inverse q (fits_below q n t) x)

-- One inverse after the other takes a composite back
pub inverse-composite :
    (q r : ℕ) → q < permutations → r < permutations → (x : ℕ) → image (inverse q) (image (inverse r) x) ≡ image (inverse (composite q r)) x
inverse-composite q r hq hr x =
    let h = composite-below q r hq hr in
    image_injective (composite q r) h (image (inverse q) (image (inverse r) x)) (image (inverse (composite q r)) x)
    (composite_image q r hq hr (image (inverse q) (image (inverse r) x))
    ∙ ap (image r) (image_inverse q hq (image (inverse r) x))
    ∙ image_inverse r hr x
    ∙ sym (image_inverse (composite q r) h x))

pub inverse_identity : (x : ℕ) → image (inverse 0) x ≡ x
inverse_identity x = ap (image (inverse 0)) (sym (image_identity x)) ∙ inverse_image 0 (lit< tt) x

-- A number that is no permutation's moves nothing
pub image_none : (q x : ℕ) → permutations ≤ q → image q x ≡ x
unfolding image words all
image_none q x h = near (dec_lt x labels)
  where
    near : Dec (x < labels) → image q x ≡ x
    near (yes l) = rw (lt-ltb x labels l) (get_or-eq_default words x {n = q * labels + x} (omega arith))
    near (no d) = image_far q x (omega arith)

pub image_known : (q : ℕ) → image (known q) ≡ image q
unfolding known
image_known q = by (dec_lt q permutations)
  where
    by : Dec (q < permutations) → image (cond (ltb q permutations) q 0) ≡ image q
    by (yes l) = rw (lt-ltb q permutations l)
    by (no d) =
        let h : permutations ≤ q = omega arith in
        rw (le-ltb q permutations h) (fun_ext (λ x. image_identity x ∙ sym (image_none q x h)))

pub composite-known : (q r : ℕ) → composite (known q) (known r) ≡ composite q r
unfolding composite
composite-known q r i = numbered (λ x. image_known r i (image_known q i x))

pub inverse-known : (q : ℕ) → inverse (known q) ≡ inverse q
unfolding inverse
inverse-known q i = least_from permutations (λ s. all labels (λ x. eqb (image s (image_known q i x)) x)) 0

pub known-below : (q : ℕ) → q < permutations → q ≡ known q
unfolding known
known-below q h = rw (lt-ltb q permutations h)

pub known-none : (q : ℕ) → permutations ≤ q → 0 ≡ known q
unfolding known
known-none q h = rw (le-ltb q permutations h)

-- labels go to labels, by any number
pub image_label : (q x : ℕ) → x < labels → image q x < labels
image_label q x h = by (dec_lt q permutations)
  where
    by : Dec (q < permutations) → image q x < labels
    by (yes l) = image_below q l x h
    by (no d) = let e = image_none q x (omega arith) in omega arith

-- and a label that is a byte goes to one
pub image_byte : (q x : ℕ) → x < 256 → image q x < 256
image_byte q x h = near (dec_lt x labels)
  where
    near : Dec (x < labels) → image q x < 256
    near (yes l) = let i = image_label q x l in omega arith
    near (no d) = let e = image_far q x (omega arith) in omega arith

-- being below n is a test of the image too
pub fits-ltb : (q n : ℕ) → T (fits q n) → (x : ℕ) → ltb (image q x) n ≡ ltb x n
fits-ltb q n f x =
    same_test (ltb (image q x) n) (ltb x n)
    (λ t.
    lt→ltb x n
    (subst (λ (y : ℕ). y < n) (inverse_image q (fits_below q n f) x) (fits_image (inverse q) n (fits-inverse q n f) (image q x) (ltb→lt (image q x) n t))))
    (λ t. lt→ltb (image q x) n (fits_image q n f x (ltb→lt x n t)))

-- a label that is there moves, and none stays none
pub moved_if : (q : ℕ) (t : Bool) (x y : ℕ) → (T t → x ≡ image q y) → cond t x labels ≡ image q (cond t y labels)
moved_if q true x y e = e tt
moved_if q false x y e = sym (image_far q labels (lit≤ tt))
