-- How many bytes a number takes: a greater one no fewer, a number of 32 bits few, and the loop that counts them.
-- Assumes nothing.
use Prim.Native.Nat.{ℕ, zero, suc, ◌+◌, ◌*◌, ◌/◌, ◌%◌, ◌^◌, ◌≤◌, ◌<◌}
use native.Mathlib.Nat.{pow-suc, le_refl}
use native.Mathlib.Omega.{arith}
use mathlib.Core.Path.{◌≡◌, refl, subst}
use mathlib.Core.Bool.{Bool, true, false, cond}
use mathlib.Core.List.{[], ◌∷◌}
use mathlib.Core.Logic.{⊎_elim}
use lib.Dec.{ltb}
use lib.ListN.{length}
use borrow.Author.Tests.{ltb-true, ltb-false}
use Rattle.number.specs.Number.{encode_by, encode, size, widest}
use Rattle.number.proofs.Encoding.{lt_or_ge, fuel_any, encode-long, encode_low, encode_high}

-- a greater number takes no fewer bytes
long_by : (g v w : ℕ) → v ≤ w → length (encode_by g v) ≤ length (encode_by g w)
unfolding encode_by
long_by zero v w h = le_refl 1
long_by (suc g) v w h = go (ltb v 128) (ltb w 128) refl refl (long_by g (v / 128) (w / 128))
  where
    go : (x y : Bool) → ltb v 128 ≡ x → ltb w 128 ≡ y → (v / 128 ≤ w / 128 → length (encode_by g (v / 128)) ≤ length (encode_by g (w / 128)))
        → length (cond x (v ∷ []) ((128 + v % 128) ∷ encode_by g (v / 128))) ≤ length (cond y (w ∷ []) ((128 + w % 128) ∷ encode_by g (w / 128)))
    go true true p q ih = le_refl 1
    go true false p q ih = omega arith
    go false true p q ih = absurd (omega (arith, ltb-false v 128 p, ltb-true w 128 q))
    go false false p q ih = omega (arith, ih (omega arith))

pub size_mono : (v w : ℕ) → v ≤ w → size v ≤ size w
unfolding encode
size_mono v w h = rw (fuel_any v w v (le_refl v) h) (long_by w v w h)

encode-few : (n v : ℕ) → v < 128 ^ suc n → length (encode v) ≤ suc n
encode-few zero v h = rw (encode_low v (omega arith)) (omega arith)
encode-few (suc n) v h =
    ⊎_elim (λ l. rw (encode_low v l) (omega arith))
    (λ g. rw (encode_high v g)
    (let h' : v < 128 ^ suc n * 128 = subst (λ (x : ℕ). v < x) (pow-suc 128 (suc n)) h in
    let i : length (encode (v / 128)) ≤ suc n = encode-few n (v / 128) (omega arith) in
    omega arith))
    (lt_or_ge v 128)

pub number-few : (v : ℕ) → v < 2 ^ 32 → length (encode v) ≤ widest
number-few v h = encode-few 4 v (omega arith)

-- size bytes were counted, but for those of the rest
pub record Counted (v rest size : ℕ) : Type 0 where
  pub same : size + length (encode rest) ≡ 1 + length (encode v)

pub counted_none : (v : ℕ) → Counted v v 1
counted_none v = record { same = refl }

module _ (v rest size : ℕ) (h : Counted v rest size) where
  pub one-counted : 128 ≤ rest → Counted v (rest / 128) (size + 1)
  one-counted g =
      let e : length (encode rest) ≡ 1 + length (encode (rest / 128)) = rw (encode_high rest g) (omega arith) in
      record { same = omega (arith, h.same) }

  pub counted-small : v < 2 ^ 32 → size ≤ widest
  counted-small b = omega (arith, h.same, number-few v b, encode-long rest)

  pub counted-all : v < 2 ^ 32 → rest < 128 → (size ≡ length (encode v)) × (size ≤ widest)
  counted-all b g =
      let e : length (encode rest) ≡ 1 = rw (encode_low rest g) in
      (omega (arith, h.same), counted-small b)
