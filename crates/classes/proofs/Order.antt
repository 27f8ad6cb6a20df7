-- Bytes compared byte by byte are in a total order.
-- Assumes nothing.
use Prim.Native.Nat.{ℕ, ◌≤◌, ◌<◌}
use native.Mathlib.Omega.{arith}
use mathlib.Core.Path.{◌≡◌, refl, sym, ap₂, ◌∙◌}
use mathlib.Core.Bool.{Bool, true, false, cond, true≢false}
use mathlib.Core.List.{List, [], ◌∷◌, ◌++◌}
use lib.Dec.{eqb, ltb}
use lib.ListN.{length}
use borrow.Author.Tests.{eqb-true, eq-eqb, ne_eqb, eqb-false, ltb-true, ltb-false, lt-ltb, le-ltb}
use Rattle.classes.specs.Order.{at_most}

pub at_most_same : (a : List ℕ) → at_most a a ≡ true
unfolding at_most
at_most_same [] = refl
at_most_same (x ∷ a) = rw (eq-eqb x x refl) (at_most_same a)

-- what it says of two that begin with a byte
pub data First (x y : ℕ) (a b : List ℕ) : Type 0 where
  less : x < y → First x y a b
  equal : x ≡ y → at_most a b ≡ true → First x y a b

first_of : (x y : ℕ) (a b : List ℕ) → at_most (x ∷ a) (y ∷ b) ≡ true → First x y a b
unfolding at_most
first_of x y a b h = go (eqb x y) refl h
  where
    go : (e : Bool) → eqb x y ≡ e → cond e (at_most a b) (ltb x y) ≡ true → First x y a b
    go true p h = equal (eqb-true x y p) h
    go false p h = less (ltb-true x y h)

of_first : (x y : ℕ) (a b : List ℕ) → First x y a b → at_most (x ∷ a) (y ∷ b) ≡ true
unfolding at_most
of_first x y a b (less l) = rw (ne_eqb x y (λ e. omega arith)) (lt-ltb x y l)
of_first x y a b (equal e h) = rw (eq-eqb x y e) h

pub at_most_trans : (a b c : List ℕ) → at_most a b ≡ true → at_most b c ≡ true → at_most a c ≡ true
unfolding at_most
at_most_trans [] b c h l = refl
at_most_trans (x ∷ a) [] c h l = absurd (true≢false (sym h))
at_most_trans (x ∷ a) (y ∷ b) [] h l = l
at_most_trans (x ∷ a) (y ∷ b) (z ∷ c) h l = of_first x z a c (go (first_of x y a b h) (first_of y z b c l) (at_most_trans a b c))
  where
    go : First x y a b → First y z b c → (at_most a b ≡ true → at_most b c ≡ true → at_most a c ≡ true) → First x z a c
    go (less p) (less q) ih = less (omega arith)
    go (less p) (equal q k) ih = less (omega arith)
    go (equal p k) (less q) ih = less (omega arith)
    go (equal p k) (equal q m) ih = equal (p ∙ q) (ih k m)

pub at_most_both : (a b : List ℕ) → at_most a b ≡ true → at_most b a ≡ true → a ≡ b
unfolding at_most
at_most_both [] [] h l = refl
at_most_both [] (y ∷ b) h l = absurd (true≢false (sym l))
at_most_both (x ∷ a) [] h l = absurd (true≢false (sym h))
at_most_both (x ∷ a) (y ∷ b) h l = go (first_of x y a b h) (first_of y x b a l) (at_most_both a b)
  where
    go : First x y a b → First y x b a → (at_most a b ≡ true → at_most b a ≡ true → a ≡ b) → (x ∷ a) ≡ (y ∷ b)
    go (less p) (less q) ih = absurd (omega arith)
    go (less p) (equal q k) ih = absurd (omega arith)
    go (equal p k) (less q) ih = absurd (omega arith)
    go (equal p k) (equal q m) ih = ap₂ ◌∷◌ p (ih k m)

-- one of two is at most the other
pub at_most_other : (a b : List ℕ) → at_most a b ≡ false → at_most b a ≡ true
unfolding at_most
at_most_other [] b h = absurd (true≢false h)
at_most_other (x ∷ a) [] h = refl
at_most_other (x ∷ a) (y ∷ b) h = go (eqb x y) refl h (at_most_other a b)
  where
    go : (e : Bool) → eqb x y ≡ e → cond e (at_most a b) (ltb x y) ≡ false → (at_most a b ≡ false → at_most b a ≡ true) → at_most (y ∷ b) (x ∷ a) ≡ true
    go true p h ih = of_first y x b a (equal (sym (eqb-true x y p)) (ih h))
    go false p h ih = of_first y x b a (less (above (ltb-false x y h) (eqb-false x y p)))
      where
        above : y ≤ x → (x ≡ y → ⊥) → y < x
        above l n = omega arith

-- what both have in front does not decide
pub at_most_cancel : (a u v : List ℕ) → at_most (a ++ u) (a ++ v) ≡ at_most u v
unfolding at_most
at_most_cancel [] u v = refl
at_most_cancel (x ∷ a) u v = rw (eq-eqb x x refl) (at_most_cancel a u v)

-- a lesser byte decides, whatever follows, and a greater one
pub byte-less : (x y : ℕ) (u v : List ℕ) → x < y → at_most (x ∷ u) (y ∷ v) ≡ true
byte-less x y u v l = of_first x y u v (less l)

pub byte-greater : (x y : ℕ) (u v : List ℕ) → y < x → at_most (x ∷ u) (y ∷ v) ≡ false
unfolding at_most
byte-greater x y u v l = rw (ne_eqb x y (λ e. omega arith)) (le-ltb x y (omega arith))

-- what stands behind two of one length decides only where they are equal; here it is equal then
pub front_decides : (a b u v : List ℕ) → length a ≡ length b → (a ≡ b → u ≡ v) → at_most (a ++ u) (b ++ v) ≡ at_most a b
unfolding at_most
front_decides [] [] u v e h = rw (h refl) (at_most_same v)
front_decides [] (y ∷ b) u v e h = absurd (omega arith)
front_decides (x ∷ a) [] u v e h = absurd (omega arith)
front_decides (x ∷ a) (y ∷ b) u v e h = go (eqb x y) refl (front_decides a b u v (omega arith))
  where
    go :
        (t : Bool) → eqb x y ≡ t → ((a ≡ b → u ≡ v) → at_most (a ++ u) (b ++ v) ≡ at_most a b)
        → cond t (at_most (a ++ u) (b ++ v)) (ltb x y) ≡ cond t (at_most a b) (ltb x y)
    go true p ih = ih (λ z. h (ap₂ ◌∷◌ (eqb-true x y p) z))
    go false p ih = refl
