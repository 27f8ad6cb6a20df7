-- Two numbers compared group by group.
-- Assumes nothing.
use Prim.Native.Nat.{ℕ, ◌+◌, ◌/◌, ◌%◌, ◌^◌, ◌≤◌, ◌<◌}
use native.Mathlib.Omega.{arith}
use mathlib.Core.Path.{◌≡◌, refl, ap, sym, ◌∙◌, subst}
use mathlib.Core.Bool.{Bool, true, false, false≢true}
use mathlib.Core.Logic.{⊎_elim}
use mathlib.Core.List.{[], ◌∷◌, ◌++◌}
use lib.ListN.{get_or, drop}
use lib.Seq.{drop-cons}
use Rattle.std.proofs.Common.{Ordering, Less, Equal, Greater}
use Rattle.std.specs.Ordering.{MatchOrdering, nat_cmp, is_ne}
use Rattle.std.proofs.lemmas.Cmp.{ranked}
use Rattle.number.specs.Number.{read_groups, encode}
use Rattle.number.proofs.Encoding.{lt_or_ge, encode-long, encode_low, encode_high}
use Rattle.number.proofs.Laws.{read_back}
use Rattle.compare.specs.Decided.{Decided}
use Rattle.compare.proofs.Decisions.{lesser-first, decided_less, decided_greater, decided_equal, decided_behind}

-- a number's first byte
pub first_low : (v : ℕ) → v < 128 → v ≡ get_or (encode v) 0 0
first_low v l = rw (encode_low v l)

pub first_high : (v : ℕ) → 128 ≤ v → 128 + v % 128 ≡ get_or (encode v) 0 0
first_high v l = rw (encode_high v l)

begins : (v x : ℕ) → x ≡ get_or (encode v) 0 0 → encode v ≡ x ∷ drop 1 (encode v)
begins v x e = drop-cons (encode v) 0 0 (encode-long v) ∙ ap (λ (y : ℕ). y ∷ drop 1 (encode v)) (sym e)

-- a first byte below 128 says that none follows
last : (a b : ℕ) → get_or (encode a) 0 0 ≡ get_or (encode b) 0 0 → a < 128 → b < 128
last a b e l = ⊎_elim (λ h. h) (λ h. absurd (omega (arith, first_low a l, first_high b h))) (lt_or_ge b 128)

-- numbers of 32 bits with the same bytes are the same
pub encode_same : (v w : ℕ) → v < 2 ^ 32 → w < 2 ^ 32 → encode v ≡ encode w → v ≡ w
encode_same v w h l e =
    let p = read_back 4 v 0 [] (omega arith) (omega arith) in
    let q = read_back 4 w 0 [] (omega arith) (omega arith) in
    let r : read_groups 5 0 (encode v ++ []) ≡ read_groups 5 0 (encode w ++ []) = rw e in
    cc

-- the groups before a's and b's are equal, so that a and b decide
pub record Left (v w a b : ℕ) : Type 0 where
  pub decides : (r : Ordering) → Decided (encode a) (encode b) r → Decided (encode v) (encode w) r

pub begun : {v w : ℕ} → Left v w v w
begun = record { decides = λ r d. d }

module _ {v w a b : ℕ} (L : Left v w a b) (x y : ℕ) (ex : x ≡ get_or (encode a) 0 0) (ey : y ≡ get_or (encode b) 0 0) where
  less : x < y → Decided (encode v) (encode w) Less
  less l = L.decides Less (rw (begins a x ex, begins b y ey) (decided_less (lesser-first x y _ _ l)))

  greater : y < x → Decided (encode v) (encode w) Greater
  greater l = L.decides Greater (rw (begins a x ex, begins b y ey) (decided_greater (lesser-first y x _ _ l)))

  equal : x ≡ y → a < 128 → Decided (encode v) (encode w) Equal
  equal m l =
      let h : b < 128 = last a b (omega arith) l in
      let e : a ≡ b = omega (arith, first_low a l, first_low b h) in
      L.decides Equal (decided_equal (ap encode e))

  tells : (r : Ordering) → MatchOrdering r (x < y) (x ≡ y) (y < x) → (r ≡ Equal → a < 128) → Decided (encode v) (encode w) r
  tells Less m l = less m
  tells Equal m l = equal m (l refl)
  tells Greater m l = greater m

  is_equal : (r : Ordering) → false ≡ is_ne r → r ≡ Equal
  is_equal Less e = absurd (false≢true e)
  is_equal Equal e = refl
  is_equal Greater e = absurd (false≢true e)

  module _ (r : Ordering) (e : r ≡ nat_cmp x y) where
    pub ends : a < 128 → Decided (encode v) (encode w) r
    ends l = tells r (ranked x y r e) (λ z. l)

    module _ (t : Bool) (et : t ≡ is_ne r) where
      pub differs : t ≡ true → Decided (encode v) (encode w) r
      differs h = tells r (ranked x y r e) (λ z. absurd (false≢true (sym (et ∙ ap is_ne z) ∙ h)))

      pub again : t ≡ false → 128 ≤ a → Left v w (a / 128) (b / 128)
      again z l =
          let m : x ≡ y = subst (λ (o : Ordering). MatchOrdering o (x < y) (x ≡ y) (y < x)) (is_equal r (sym z ∙ et)) (ranked x y r e) in
          let h : 128 ≤ b = ⊎_elim (λ g. absurd (omega (arith, last b a (omega arith) g))) (λ g. g) (lt_or_ge b 128) in
          let n : 128 + a % 128 ≡ 128 + b % 128 = omega (arith, first_high a l, first_high b h) in
          record { decides = λ o d. L.decides o (rw (encode_high a l, encode_high b h, n) (decided_behind ((128 + b % 128) ∷ []) o d)) }
