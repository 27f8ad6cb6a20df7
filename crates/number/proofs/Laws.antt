-- The two laws: what is written is read back, and what is read was written so.
use Prim.Native.Nat.{ℕ, zero, suc, ◌+◌, ◌-◌, ◌*◌, ◌/◌, ◌%◌, ◌^◌, ◌≤◌, ◌<◌}
use mathlib.Core.Path.{◌≡◌, refl, ap, sym, ◌∙◌}
use mathlib.Core.List.{List, [], ◌∷◌, ◌++◌}
use mathlib.Core.Bool.{Bool, true, false, cond}
use mathlib.Core.Logic.{⊎_elim}
use native.Mathlib.Omega.{arith}
use native.Mathlib.Nat.{div-lt_iff_lt-mul, pow-suc, pow-le-pow_right}
use lib.ListN.{length, take, drop}
use lib.Seq.{drop-append_seam, drop-drop}
use lib.Dec.{ltb}
use borrow.Author.Tests.{lt-ltb, le-ltb, ltb-false}
use Rattle.finite.proofs.All.{all_drop}
use Rattle.number.specs.Number.{Raw, got, short, wrong, after, read_groups, finish, read_number, groups, encode, Bytes}
use Rattle.number.specs.Number.{stop, next}
use Rattle.number.proofs.Encoding.{encode_low, encode_high, lt_or_ge}

low : (n v least : ℕ) (t : List ℕ) → v < 128 → least ≤ v → read_groups (suc n) least (encode v ++ t) ≡ got v (length (encode v))
unfolding read_groups
low n v least t s l = rw (encode_low v s, lt-ltb v 128 s, le-ltb v least l)

high : (n v least : ℕ) (t : List ℕ) → 128 ≤ v → read_groups n 1 (encode (v / 128) ++ t) ≡ got (v / 128) (length (encode (v / 128)))
    → read_groups (suc n) least (encode v ++ t) ≡ got v (length (encode v))
unfolding read_groups after
high n v least t g ih =
    let b : 128 ≤ 128 + v % 128 = omega arith in
    let e : 128 + v % 128 - 128 + v / 128 * 128 ≡ v = omega arith in
    let f : 1 + length (encode (v / 128)) ≡ suc (length (encode (v / 128))) = omega arith in
    rw (encode_high v g, le-ltb _ _ b, ih, e, f)

-- the groups of v, read with room for them
pub read_back : (n v least : ℕ) (t : List ℕ) → v < 128 ^ suc n → least ≤ v → read_groups (suc n) least (encode v ++ t) ≡ got v (length (encode v))
read_back zero v least t f l = low zero v least t f l
read_back (suc n) v least t f l =
    ⊎_elim
    (λ (s : v < 128). low (suc n) v least t s l)
    (λ (g : 128 ≤ v).
    let o : 1 ≤ v / 128 = omega arith in
    let d : v / 128 < 128 ^ suc n = (div-lt_iff_lt-mul (omega arith)).1 (rw pow-suc at f) in
    high (suc n) v least t g (read_back n (v / 128) 1 t d o))
    (lt_or_ge v 128)

-- what is written, anywhere, is read back
pub written_is_read : (before rest : List ℕ) (v limit : ℕ) → v < 128 ^ groups → v ≤ limit
    → read_number (before ++ (encode v ++ rest)) (length before) limit ≡ next v (length before + length (encode v))
unfolding read_number finish
written_is_read before rest v limit f l =
    rw (drop-append_seam before (encode v ++ rest), read_back (groups - 1) v 0 rest f (omega arith), le-ltb limit v l)

-- what groups were read are those of the value
pub record Encoded (least : ℕ) (s : List ℕ) (v k : ℕ) : Type 0 where
  pub value : least ≤ v
  pub count : k ≡ length (encode v)
  pub bytes : take k s ≡ encode v

-- the last group
last_encoded : (least b : ℕ) (s : List ℕ) (v k : ℕ) → b < 128 → cond (ltb b least) wrong (got b 1) ≡ got v k → Encoded least (b ∷ s) v k
last_encoded least b s v k h e = go (ltb b least) refl e
  where
    go : (t : Bool) → ltb b least ≡ t → cond t wrong (got b 1) ≡ got v k → Encoded least (b ∷ s) v k
    go true l q = let z : ◌≡◌ {A = ℕ} 0 1 = cc in absurd (omega arith)
    go false l q =
        let ev : b ≡ v = cc in
        let ek : 1 ≡ k = cc in
        let u : encode v ≡ v ∷ [] = encode_low v (omega arith) in
        record {
          value = omega (arith, ltb-false b least l);
          count = sym ek ∙ sym (ap length u);
          bytes = rw (← ek, u, ev);
        }

-- a group before others that are encoded
more_encoded : (least b : ℕ) (s : List ℕ) (w j v k : ℕ) → least ≤ 1 → 128 ≤ b → b < 256 → Encoded 1 s w j → got (b - 128 + w * 128) (1 + j) ≡ got v k → Encoded least (b ∷ s) v k
more_encoded least b s w j v k l h f r e =
    let ev : b - 128 + w * 128 ≡ v = cc in
    let ek : 1 + j ≡ k = cc in
    let d : v / 128 ≡ w = omega (arith, r.value) in
    let m : 128 + v % 128 ≡ b = omega (arith, r.value) in
    let big : 128 ≤ v = omega (arith, r.value) in
    let u : encode v ≡ b ∷ encode w = encode_high v big ∙ rw (d, m) in
    let n : 1 + j ≡ suc j = omega arith in
    record {
      value = omega arith;
      count = omega (arith, r.count, ap length u);
      bytes = rw (← ek, n, u) (ap (λ (xs : List ℕ). b ∷ xs) r.bytes);
    }

behind : (least b : ℕ) (s : List ℕ) (v k : ℕ) → least ≤ 1 → 128 ≤ b → b < 256
    → (r : Raw) → ((w j : ℕ) → r ≡ got w j → Encoded 1 s w j) → after (b - 128) 128 1 r ≡ got v k → Encoded least (b ∷ s) v k
unfolding after
behind least b s v k l h f (got w j) g e = more_encoded least b s w j v k l h f (g w j refl) e
behind least b s v k l h f short g e = let z : ◌≡◌ {A = ℕ} 0 1 = cc in absurd (omega arith)
behind least b s v k l h f wrong g e = let z : ◌≡◌ {A = ℕ} 0 1 = cc in absurd (omega arith)

-- what is read as v stands there as v is written
pub read_is_encoded : (n least : ℕ) (s : List ℕ) (v k : ℕ) → least ≤ 1 → Bytes s → read_groups n least s ≡ got v k → Encoded least s v k
unfolding read_groups
read_is_encoded zero least s v k l y e = let z : ◌≡◌ {A = ℕ} 0 1 = cc in absurd (omega arith)
read_is_encoded (suc n) least [] v k l y e = let z : ◌≡◌ {A = ℕ} 0 1 = cc in absurd (omega arith)
read_is_encoded (suc n) least (b ∷ s) v k l y e =
    ⊎_elim
    (λ (h : b < 128). last_encoded least b s v k h (rw (lt-ltb b 128 h) at e))
    (λ (h : 128 ≤ b). behind least b s v k l h y.0 (read_groups n 1 s) (λ (w j : ℕ). read_is_encoded n 1 s w j (omega arith) y.1) (rw (le-ltb b 128 h) at e))
    (lt_or_ge b 128)

-- a number that was read is within its limit, is written in the bytes read, and the next one starts behind them
pub record Stands (s : List ℕ) (at limit v behind : ℕ) : Type 0 where
  pub within : v ≤ limit
  pub next_is : behind ≡ at + length (encode v)
  pub bytes : take (length (encode v)) (drop at s) ≡ encode v

answered : (s : List ℕ) (at limit v behind : ℕ) → (r : Raw) → ((w j : ℕ) → r ≡ got w j → Encoded 0 (drop at s) w j)
    → finish at limit r ≡ next v behind → Stands s at limit v behind
unfolding finish
answered s at limit v behind (got w j) g e = go (ltb limit w) refl e
  where
    go : (t : Bool) → ltb limit w ≡ t → cond t (stop 3 at) (next w (at + j)) ≡ next v behind → Stands s at limit v behind
    go true l q = let z : ◌≡◌ {A = ℕ} 0 1 = cc in absurd (omega arith)
    go false l q =
        let ev : w ≡ v = cc in
        let en : at + j ≡ behind = cc in
        let r : Encoded 0 (drop at s) w j = g w j refl in
        let c : j ≡ length (encode v) = r.count ∙ ap (λ (x : ℕ). length (encode x)) ev in
        record {
          within = omega (arith, ltb-false limit w l);
          next_is = omega arith;
          bytes = rw (← c, ← ev) r.bytes;
        }
answered s at limit v behind short g e = let z : ◌≡◌ {A = ℕ} 0 1 = cc in absurd (omega arith)
answered s at limit v behind wrong g e = let z : ◌≡◌ {A = ℕ} 0 1 = cc in absurd (omega arith)

pub read_is_written : (s : List ℕ) (at limit v behind : ℕ) → Bytes s → read_number s at limit ≡ next v behind → Stands s at limit v behind
unfolding read_number
read_is_written s at limit v behind y e =
    answered s at limit v behind (read_groups groups 0 (drop at s))
    (λ (w j : ℕ). read_is_encoded groups 0 (drop at s) w j (omega arith) (all_drop _ at s y)) e

-- a number that was read is within its limit, whatever the bytes
finish-within : (at limit v behind : ℕ) (r : Raw) → finish at limit r ≡ next v behind → v ≤ limit
unfolding finish
finish-within at limit v behind (got w j) e = go (ltb limit w) refl e
  where
    go : (t : Bool) → ltb limit w ≡ t → cond t (stop 3 at) (next w (at + j)) ≡ next v behind → v ≤ limit
    go true l q = let z : ◌≡◌ {A = ℕ} 0 1 = cc in absurd (omega arith)
    go false l q =
        let ev : w ≡ v = cc in
        omega (arith, ltb-false limit w l)
finish-within at limit v behind short e = let z : ◌≡◌ {A = ℕ} 0 1 = cc in absurd (omega arith)
finish-within at limit v behind wrong e = let z : ◌≡◌ {A = ℕ} 0 1 = cc in absurd (omega arith)

pub read_within : (s : List ℕ) (at limit v behind : ℕ) → read_number s at limit ≡ next v behind → v ≤ limit
unfolding read_number
read_within s at limit v behind e = finish-within at limit v behind (read_groups groups 0 (drop at s)) e

-- a part of a list, and what stands behind it
pub past : (s xs rest : List ℕ) (at : ℕ) → drop at s ≡ xs ++ rest → drop (at + length xs) s ≡ rest
past s xs rest at h = sym (drop-drop (length xs) at s) ∙ ap (drop (length xs)) h ∙ drop-append_seam xs rest

-- where v is written, v is read
pub read_at : (s rest : List ℕ) (at limit v : ℕ) → v < 128 ^ groups → v ≤ limit → drop at s ≡ encode v ++ rest
    → read_number s at limit ≡ next v (at + length (encode v))
unfolding read_number finish
read_at s rest at limit v f l h = rw (h, read_back (groups - 1) v 0 rest f (omega arith), le-ltb limit v l)

-- a number above the limit, where it is written, is refused with 3
pub read_above : (s rest : List ℕ) (at limit v : ℕ) → v < 128 ^ groups → limit < v → drop at s ≡ encode v ++ rest → read_number s at limit ≡ stop 3 at
unfolding read_number finish
read_above s rest at limit v f l h = rw (h, read_back (groups - 1) v 0 rest f (omega arith), lt-ltb limit v l)

-- more groups than n
wide : (n v least : ℕ) (t : List ℕ) → 128 ^ n ≤ v → read_groups n least (encode v ++ t) ≡ wrong
unfolding read_groups after
wide zero v least t h = refl
wide (suc n) v least t h =
    let more : 128 ^ n * 128 ≤ v = rw pow-suc at h in
    let big : 128 ≤ v = omega (arith, pow_pos_of n) in
    let rest : 128 ^ n ≤ v / 128 = omega arith in
    rw (encode_high v big, le-ltb _ _ (high_group v), wide n (v / 128) 1 t rest)
  where
    high_group : (v : ℕ) → 128 ≤ 128 + v % 128
    high_group v = omega arith

    pow_pos_of : (n : ℕ) → 1 ≤ 128 ^ n
    pow_pos_of n =
        let base : 0 < 128 = omega arith in
        let least : 0 ≤ n = omega arith in
        pow-le-pow_right base least

-- a number of more groups than there may be is refused with 2
pub read_wide : (s rest : List ℕ) (at limit v : ℕ) → 128 ^ groups ≤ v → drop at s ≡ encode v ++ rest → read_number s at limit ≡ stop 2 at
unfolding read_number finish
read_wide s rest at limit v f h = rw (h, wide groups v 0 rest f)
