-- Laws of a number's encoding.
use Prim.Native.Nat.{ℕ, zero, suc, ◌+◌, ◌/◌, ◌%◌, ◌≤◌, ◌<◌}
use mathlib.Core.Path.{◌≡◌, refl, ap, sym, ◌∙◌}
use mathlib.Core.List.{List, [], ◌∷◌}
use mathlib.Core.Bool.{Bool, true, false, cond}
use mathlib.Core.Logic.{◌⊎◌, inl, inr, ⊎_elim}
use native.Mathlib.Omega.{arith}
use native.Mathlib.Nat.{not-suc-le-zero}
use native.Mathlib.Numerals.{add-one}
use lib.ListN.{length, set, length-set}
use lib.Seq.{sets, sets-eq}
use lib.Dec.{ltb}
use borrow.Author.Tests.{lt-ltb, le-ltb, ltb-true, ltb-false}
use Rattle.number.specs.Number.{encode_by, encode, splice}

pub lt_or_ge : (a b : ℕ) → (a < b) ⊎ (b ≤ a)
lt_or_ge a b = go (ltb a b) refl
  where
    go : (t : Bool) → ltb a b ≡ t → (a < b) ⊎ (b ≤ a)
    go true e = inl (ltb-true a b e)
    go false e = inr (ltb-false a b e)

-- one group
pub encode-small : (fuel v : ℕ) → v < 128 → encode_by fuel v ≡ v ∷ []
unfolding encode_by
encode-small zero v h = refl
encode-small (suc n) v h = rw (lt-ltb _ _ h)

by_fuel : (fuel v : ℕ) → 0 < length (encode_by fuel v)
unfolding encode_by
by_fuel zero v = omega arith
by_fuel (suc n) v = go (ltb v 128)
  where
    go : (t : Bool) → 0 < length (cond t (v ∷ []) ((128 + v % 128) ∷ encode_by n (v / 128)))
    go true = omega arith
    go false = omega arith

omega_lt : (v : ℕ) → v ≤ 0 → 128 ≤ v → 0 < 0
omega_lt v f h = omega arith

pub fuel_any : (a b v : ℕ) → v ≤ a → v ≤ b → encode_by a v ≡ encode_by b v
unfolding encode_by
fuel_any zero b v f g = let s : v < 128 = omega arith in sym (encode-small b v s)
fuel_any (suc a) zero v f g = let s : v < 128 = omega arith in encode-small (suc a) v s
fuel_any (suc a) (suc b) v f g =
    ⊎_elim
    (λ (s : v < 128). rw (lt-ltb v 128 s))
    (λ (l : 128 ≤ v).
    let d : v / 128 ≤ a = omega arith in
    let e : v / 128 ≤ b = omega arith in
    rw (le-ltb v 128 l) (ap (λ (xs : List ℕ). (128 + v % 128) ∷ xs) (fuel_any a b (v / 128) d e)))
    (lt_or_ge v 128)

-- a group and the others, at any two fuels that do
pub encode-more : (fuel v other : ℕ) → v ≤ fuel → 128 ≤ v → v / 128 ≤ other → encode_by fuel v ≡ (128 + v % 128) ∷ encode_by other (v / 128)
unfolding encode_by
encode-more zero v other f h o = absurd (not-suc-le-zero (omega_lt v f h))
encode-more (suc n) v other f h o =
    let d : v / 128 ≤ n = omega arith in
    rw (le-ltb _ _ h) (ap (λ (xs : List ℕ). (128 + v % 128) ∷ xs) (fuel_any n other (v / 128) d o))

pub encode-long : (v : ℕ) → 0 < length (encode v)
unfolding encode
encode-long v = by_fuel v v

pub encode_low : (v : ℕ) → v < 128 → encode v ≡ v ∷ []
unfolding encode
encode_low v h = encode-small v v h

pub encode_high : (v : ℕ) → 128 ≤ v → encode v ≡ (128 + v % 128) ∷ encode (v / 128)
unfolding encode
encode_high v h = let r : v ≤ v = omega arith in let q : v / 128 ≤ v / 128 = omega arith in encode-more v v (v / 128) r h q

-- what is left to write is `rest`, from `place` on
pub record Writing (out₀ : List ℕ) (at v : ℕ) (out : List ℕ) (place rest : ℕ) : Type 0 where
  pub long : length out ≡ length out₀
  pub fits : place + length (encode rest) ≤ length out
  pub same : sets out place (encode rest) ≡ sets out₀ at (encode v)
  pub ends : place + length (encode rest) ≡ at + length (encode v)

pub begun : (out : List ℕ) (at v : ℕ) → at + length (encode v) ≤ length out → Writing out at v out at v
begun out at v h = record { long = refl; fits = h; same = refl; ends = refl }

module _ (out₀ : List ℕ) (at v : ℕ) (out : List ℕ) (place rest : ℕ) (h : Writing out₀ at v out place rest) where
  pub inside : place < length out
  inside = omega (arith, encode-long rest, h.fits)

  pub turn : 128 ≤ rest → Writing out₀ at v (set out place (128 + rest % 128)) (place + 1) (rest / 128)
  turn r =
      let e : encode rest ≡ (128 + rest % 128) ∷ encode (rest / 128) = encode_high rest r in
      let l : length (encode rest) ≡ suc (length (encode (rest / 128))) = ap length e in
      let n : length (set out place (128 + rest % 128)) ≡ length out = length-set out place (128 + rest % 128) in
      record {
        long = n ∙ h.long;
        fits = omega (arith, h.fits);
        same = rw add-one (rw e at h.same);
        ends = omega (arith, h.ends);
      }

  pub finished : rest < 128 → (place + 1 ≡ at + length (encode v)) × (set out place rest ≡ splice out₀ at (encode v))
  unfolding splice
  finished r =
      let e : encode rest ≡ rest ∷ [] = encode_low rest r in
      let l : length (encode rest) ≡ 1 = ap length e in
      let f : at + length (encode v) ≤ length out₀ = omega (arith, h.fits, h.ends, h.long) in
      (omega (arith, h.ends), rw e at h.same ∙ sets-eq (encode v) out₀ at f)
