-- Stores one after the other: what they leave and what they make.
-- Assumes nothing.
use Prim.Native.Nat.{ℕ, zero, suc, ◌+◌, ◌≤◌}
use native.Mathlib.Omega.{arith}
use mathlib.Core.Path.{◌≡◌, refl, sym, ap, ◌∙◌}
use mathlib.Core.Bool.{Bool, true, false, cond}
use mathlib.Core.List.{List, [], ◌∷◌, ◌++◌}
use lib.ListN.{length, take, drop, set, replicate, length-append, length-set}
use lib.Seq.{drop_at, take-set-le, set_at, sets, append_snoc}
use borrow.Author.Tests.{eqb-true}
use Rattle.area_model.specs.Area.{unused, is_unused, Store, after_stores, storing, flagging, appending, clearing}

-- each store is at lo or behind
abbrev pub Above : ℕ → List Store → Type 0
Above lo [] = Unit {0}
Above lo (x ∷ xs) = (lo ≤ x.at) × Above lo xs

pub above_take : (lo n : ℕ) (xs : List Store) → Above lo xs → Above lo (take n xs)
above_take lo zero xs h = tt
above_take lo (suc n) [] h = tt
above_take lo (suc n) (x ∷ xs) h = (h.0, above_take lo n xs h.1)

pub above_storing : (lo place : ℕ) (w : List ℕ) → lo ≤ place → Above lo (storing place w)
unfolding storing
above_storing lo place [] l = tt
above_storing lo place (b ∷ w) l = (l, above_storing lo (suc place) w (omega arith))

pub above_clearing : (lo place : ℕ) (s : List ℕ) → lo ≤ place → Above lo (clearing place s)
unfolding clearing
above_clearing lo place [] l = tt
above_clearing lo place (b ∷ s) l = go (is_unused b) (above_clearing lo (suc place) s (omega arith))
  where
    go : (y : Bool) → Above lo (clearing (suc place) s) → Above lo (cond y (clearing (suc place) s) (record { at = place; byte = unused } ∷ clearing (suc place) s))
    go true h = h
    go false h = (l, h)

pub stores-length : (xs : List Store) (area : List ℕ) → length (after_stores area xs) ≡ length area
unfolding after_stores
stores-length [] area = refl
stores-length (x ∷ xs) area = stores-length xs (set area x.at x.byte) ∙ length-set area x.at x.byte

-- what stands before all stores stays
pub stores-take : (lo : ℕ) (xs : List Store) (area : List ℕ) → Above lo xs → take lo (after_stores area xs) ≡ take lo area
unfolding after_stores
stores-take lo [] area h = refl
stores-take lo (x ∷ xs) area h = stores-take lo xs (set area x.at x.byte) h.1 ∙ take-set-le lo area x.at x.byte h.0

pub stores_one : (x : Store) (xs : List Store) (area : List ℕ) → after_stores area (x ∷ xs) ≡ after_stores (set area x.at x.byte) xs
unfolding after_stores
stores_one x xs area = refl

pub stores-append : (xs ys : List Store) (area : List ℕ) → after_stores area (xs ++ ys) ≡ after_stores (after_stores area xs) ys
unfolding after_stores
stores-append [] ys area = refl
stores-append (x ∷ xs) ys area = stores-append xs ys (set area x.at x.byte)

pub stores-storing : (place : ℕ) (w area : List ℕ) → after_stores area (storing place w) ≡ sets area place w
unfolding after_stores storing
stores-storing place [] area = refl
stores-storing place (b ∷ w) area = stores-storing (suc place) w (set area place b)

pub storing-length : (place : ℕ) (w : List ℕ) → length (storing place w) ≡ length w
unfolding storing
storing-length place [] = refl
storing-length place (b ∷ w) = ap suc (storing-length (suc place) w)

-- one more than the record has bytes
pub appending-length : (place : ℕ) (w : List ℕ) → length (appending place w) ≡ suc (length w)
unfolding appending
appending-length place w =
    length-append (storing (suc place) w) (flagging place) ∙ ap (λ (k : ℕ). k + 1) (storing-length (suc place) w) ∙ omega arith

-- the flag's store is the last
pub flag_last : (place : ℕ) (w : List ℕ) → drop (length w) (appending place w) ≡ flagging place
unfolding appending
flag_last place w = drop_at (storing (suc place) w) (flagging place) (length w) (storing-length (suc place) w)

-- all that isn't unused is cleared
pub stores-clearing : (front s : List ℕ) (place : ℕ) → length front ≡ place → after_stores (front ++ s) (clearing place s) ≡ front ++ replicate (length s) unused
unfolding after_stores clearing
stores-clearing front [] place h = refl
stores-clearing front (b ∷ s) place h =
    go (is_unused b) refl (stores-clearing (front ++ (unused ∷ [])) s (suc place) (length-append front (unused ∷ []) ∙ omega arith))
  where
    snoc : (x : List ℕ) → front ++ (unused ∷ []) ++ x ≡ front ++ (unused ∷ x)
    snoc x = append_snoc front unused x

    later : List ℕ → List ℕ
    later area = after_stores area (clearing (suc place) s)

    go : (y : Bool) → is_unused b ≡ y → after_stores (front ++ (unused ∷ []) ++ s) (clearing (suc place) s) ≡ front ++ (unused ∷ []) ++ replicate (length s) unused
        → after_stores (front ++ (b ∷ s)) (cond y (clearing (suc place) s) (record { at = place; byte = unused } ∷ clearing (suc place) s)) ≡ front ++ (unused ∷ replicate (length s) unused)
    go true e ih =
        let same : b ≡ unused = eqb-true b unused e in
        rw same (ap later (sym (snoc s)) ∙ ih ∙ snoc (replicate (length s) unused))
    go false e ih = ap later (set_at front b s unused place h ∙ sym (snoc s)) ∙ ih ∙ snoc (replicate (length s) unused)
