-- Laws of splice: a list written over another from a place on.
use Prim.Native.Nat.{ℕ, suc, ◌+◌, ◌-◌, ◌≤◌}
use mathlib.Core.Path.{◌≡◌, ap, sym, ◌∙◌}
use mathlib.Core.List.{List, [], ◌∷◌, ◌++◌, append_assoc, append-nil}
use native.Mathlib.Omega.{arith}
use native.Mathlib.Nat.{add-zero}
use lib.ListN.{length, take, drop, set, length-append, length-drop, drop_of_length-le}
use lib.Seq.{sets, sets-eq, length-sets, drop-drop, take_all}
use borrow.Rule.Slice.PartMut.{put_mid, mid_of}
use Rattle.number.specs.Number.{splice}

pub is_sets : (s : List ℕ) (at : ℕ) (xs : List ℕ) → at + length xs ≤ length s → sets s at xs ≡ splice s at xs
unfolding splice
is_sets s at xs h = sets-eq xs s at h

sets_append : (s : List ℕ) (at : ℕ) (xs ys : List ℕ) → sets (sets s at xs) (at + length xs) ys ≡ sets s at (xs ++ ys)
sets_append s at [] ys = rw (add-zero at)
sets_append s at (x ∷ xs) ys =
    let e : at + suc (length xs) ≡ suc at + length xs = omega arith in
    rw e (sets_append (set s at x) (suc at) xs ys)

pub splice-length : (s : List ℕ) (at : ℕ) (xs : List ℕ) → at + length xs ≤ length s → length (splice s at xs) ≡ length s
splice-length s at xs h = sym (ap length (is_sets s at xs h)) ∙ length-sets s at xs

-- one part behind the other
pub splice-append : (s : List ℕ) (at : ℕ) (xs ys : List ℕ) → at + length (xs ++ ys) ≤ length s
    → splice (splice s at xs) (at + length xs) ys ≡ splice s at (xs ++ ys)
splice-append s at xs ys h =
    let l : length (xs ++ ys) ≡ length xs + length ys = length-append xs ys in
    let f : at + length xs ≤ length s = omega arith in
    let n : length (splice s at xs) ≡ length s = splice-length s at xs f in
    let g : at + length xs + length ys ≤ length (splice s at xs) = omega arith in
    sym (is_sets (splice s at xs) (at + length xs) ys g)
    ∙ ap (λ (l : List ℕ). sets l (at + length xs) ys) (sym (is_sets s at xs f))
    ∙ sets_append s at xs ys
    ∙ is_sets s at (xs ++ ys) h

-- what was written at the start of the part from `at` on
pub splice-part : (s : List ℕ) (at : ℕ) (xs ys : List ℕ) → ys ≡ splice (mid_of at (length s - at) s) 0 xs → put_mid at (length s - at) s ys ≡ splice s at xs
unfolding splice
splice-part s at xs ys h =
    let l : length (drop at s) ≤ length s - at = simp length-drop (omega arith) in
    let z : 0 + length xs ≡ length xs = omega arith in
    rw (h, take_all (length s - at) (drop at s) l, drop_of_length-le (drop at s) l, z, drop-drop (length xs) at s)
    (ap (λ (l : List ℕ). take at s ++ l) (append-nil (xs ++ drop (at + length xs) s)) ∙ sym (append_assoc (take at s) xs (drop (at + length xs) s)))
