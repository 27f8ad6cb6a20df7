-- Laws of the groups of a number, over any number of groups.
use Prim.Native.Nat.{ℕ, zero, suc, ◌+◌, ◌-◌, ◌*◌, ◌^◌, ◌≤◌, ◌<◌}
use mathlib.Core.Path.{◌≡◌, refl, ap, sym, ◌∙◌}
use mathlib.Core.List.{List}
use mathlib.Core.Bool.{cond}
use native.Mathlib.Omega.{arith}
use native.Mathlib.Nat.{add-mul, mul_assoc, mul_comm, pow-suc, pow-le-pow_right, mul-le-mul_right, suc-mul, not-suc-le-zero}
use native.Mathlib.Numerals.{add-one}
use lib.ListN.{length, get_or, drop, drop_of_length-le}
use lib.Seq.{drop-cons}
use lib.Dec.{ltb}
use borrow.Author.Tests.{lt-ltb, le-ltb}
use Rattle.number.specs.Number.{Raw, got, short, wrong, after, read_groups, finish, read_number, groups}
use Rattle.number.specs.Number.{stop, next}

pub after-after : (low scale k c : ℕ) (r : Raw)
    → after low scale k (after c 128 1 r) ≡ after (low + c * scale) (scale * 128) (k + 1) r
unfolding after
after-after low scale k c (got v n) =
    let e : (c + v * 128) * scale ≡ c * scale + v * (scale * 128) = simp (add-mul, mul_assoc, mul_comm 128 scale) in
    let a : low + (c + v * 128) * scale ≡ low + c * scale + v * (scale * 128) = omega arith in
    let b : k + (1 + n) ≡ k + 1 + n = omega arith in
    rw (a, b)
after-after low scale k c short = refl
after-after low scale k c wrong = refl

pub after_none : (r : Raw) → after 0 1 0 r ≡ r
unfolding after
after_none (got v n) =
    let a : 0 + v * 1 ≡ v = omega arith in
    let b : 0 + n ≡ n = omega arith in
    rw (a, b)
after_none short = refl
after_none wrong = refl

module _ (least : ℕ) (s : List ℕ) (place : ℕ) where
  pub read_end : (left : ℕ) → 0 < left → length s ≤ place → read_groups left least (drop place s) ≡ short
  unfolding read_groups
  read_end zero p h = absurd (not-suc-le-zero p)
  read_end (suc n) p h = rw (drop_of_length-le s h)

  pub read_none : (left : ℕ) → left ≤ 0 → read_groups left least (drop place s) ≡ wrong
  unfolding read_groups
  read_none zero q = refl
  read_none (suc n) q = absurd (not-suc-le-zero q)

  module _ (inside : place < length s) where
    pub read_wrong : (left : ℕ) → 0 < left → get_or s place 0 < 128 → get_or s place 0 < least
        → read_groups left least (drop place s) ≡ wrong
    unfolding read_groups
    read_wrong zero p h l = absurd (not-suc-le-zero p)
    read_wrong (suc n) p h l = rw (drop-cons s place 0 inside, lt-ltb _ _ h, lt-ltb _ _ l)

    pub read_last : (left : ℕ) → 0 < left → get_or s place 0 < 128 → least ≤ get_or s place 0
        → read_groups left least (drop place s) ≡ got (get_or s place 0) 1
    unfolding read_groups
    read_last zero p h l = absurd (not-suc-le-zero p)
    read_last (suc n) p h l = rw (drop-cons s place 0 inside, lt-ltb _ _ h, le-ltb _ _ l)

    pub read_more : (left : ℕ) → 0 < left → 128 ≤ get_or s place 0
        → read_groups left least (drop place s) ≡ after (get_or s place 0 - 128) 128 1 (read_groups (left - 1) 1 (drop (place + 1) s))
    unfolding read_groups
    read_more zero p h = absurd (not-suc-le-zero p)
    read_more (suc n) p h =
        let e : suc n - 1 ≡ n = omega arith in
        rw (drop-cons s place 0 inside, le-ltb _ _ h, e, add-one)

-- the scale of the next group fits where at most eight groups were read
pub scale_next : (all left scale : ℕ) → left ≤ all → 0 < left → scale ≤ 128 ^ (all - left) → scale * 128 ≤ 128 ^ (all - (left - 1))
scale_next all left scale l p h =
    let e : all - (left - 1) ≡ suc (all - left) = omega arith in
    rw (e, pow-suc) (mul-le-mul_right 128 h)

pub scale_small : (all left scale : ℕ) → all ≤ 9 → 0 < left → scale ≤ 128 ^ (all - left) → scale ≤ 128 ^ 8
scale_small all left scale a p h =
    let d : all - left ≤ 8 = omega arith in
    let o : 0 < 128 = omega arith in
    let e : 128 ^ (all - left) ≤ 128 ^ 8 = pow-le-pow_right o d in
    omega arith

-- a product of a group and the scale
pub group_small : (g low scale : ℕ) → g < 128 → low < scale → low + g * scale < scale * 128
group_small g low scale h l =
    let e : suc g * scale ≤ 128 * scale = mul-le-mul_right scale h in
    let f : suc g * scale ≡ g * scale + scale = suc-mul g scale in
    omega (arith, mul_comm scale 128)

-- the state of a reader of the number at `at`: `left` groups are left, what was read has the value `value`, and the next group the scale `scale`
pub record Reading (s : List ℕ) (at place left least value scale : ℕ) : Type 0 where
  pub few : left ≤ groups
  pub behind : at ≤ place
  pub small : scale ≤ 128 ^ (groups - left)
  pub below : value < scale
  pub same : after value scale (place - at) (read_groups left least (drop place s)) ≡ read_groups groups 0 (drop at s)

pub start : (s : List ℕ) (at : ℕ) → Reading s at at groups 0 0 1
start s at =
    let z : at - at ≡ 0 = omega arith in
    record {
      few = omega arith;
      behind = omega arith;
      small = omega arith;
      below = omega arith;
      same = rw z (after_none (read_groups groups 0 (drop at s)));
    }

module _ (s : List ℕ) (at limit place left least value scale : ℕ) (h : Reading s at place left least value scale) where
  answer : (r : Raw) → read_groups left least (drop place s) ≡ r → finish at limit (after value scale (place - at) r) ≡ read_number s at limit
  unfolding read_number
  answer r e = ap (finish at limit) (ap (after value scale (place - at)) (sym e) ∙ h.same)

  pub none_left : left ≤ 0 → stop 2 at ≡ read_number s at limit
  unfolding finish after
  none_left p = answer wrong (read_none least s place left p)

  module _ (p : 0 < left) where
    pub ends : length s ≤ place → stop 1 at ≡ read_number s at limit
    unfolding finish after
    ends e = answer short (read_end least s place left p e)

    -- with the byte b at the place
    module _ (b : ℕ) (eb : b ≡ get_or s place 0) (inside : place < length s) where
      pub wrong-last : b < 128 → b < least → stop 2 at ≡ read_number s at limit
      unfolding finish after
      wrong-last u l = answer wrong (read_wrong least s place inside left p (rw eb at u) (rw eb at l))

      last : b < 128 → least ≤ b → cond (ltb limit (value + b * scale)) (stop 3 at) (next (value + b * scale) (at + (place - at + 1))) ≡ read_number s at limit
      unfolding finish after
      last u l = answer (got b 1) (read_last least s place inside left p (rw eb at u) (rw eb at l) ∙ ap (λ (x : ℕ). got x 1) (sym eb))

      pub too_large : b < 128 → least ≤ b → limit < value + b * scale → stop 3 at ≡ read_number s at limit
      too_large u l g = rw (lt-ltb _ _ g) at (last u l)

      pub number : b < 128 → least ≤ b → value + b * scale ≤ limit → next (value + b * scale) (place + 1) ≡ read_number s at limit
      number u l g =
          let e : at + (place - at + 1) ≡ place + 1 = omega arith in
          rw (le-ltb _ _ g, e) at (last u l)

      pub goes_on : 128 ≤ b → b < 256 → Reading s at (place + 1) (left - 1) 1 (value + (b - 128) * scale) (scale * 128)
      goes_on u w =
          let k : place + 1 - at ≡ place - at + 1 = omega (arith, h.behind) in
          let more : read_groups left least (drop place s) ≡ after (b - 128) 128 1 (read_groups (left - 1) 1 (drop (place + 1) s)) =
          rw eb (read_more least s place inside left p (rw eb at u)) in
          let small : b - 128 < 128 = omega arith in
          record {
            few = omega (arith, h.few);
            behind = omega (arith, h.behind);
            small = scale_next groups left scale h.few p h.small;
            below = group_small (b - 128) value scale small h.below;
            same = rw (k, ← after-after, ← more) h.same;
          }

  pub product_fits : (g : ℕ) → 0 < left → g < 128 → value + g * scale < 2 ^ 63
  product_fits g p q =
      let e : value + g * scale < scale * 128 = group_small g value scale q h.below in
      let f : scale ≤ 128 ^ 8 = scale_small groups left scale (omega arith) p h.small in
      omega arith

  pub scale_fits : 0 < left → scale * 128 < 2 ^ 64
  scale_fits p =
      let f : scale ≤ 128 ^ 8 = scale_small groups left scale (omega arith) p h.small in
      omega arith
