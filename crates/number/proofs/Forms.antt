-- When a number is refused, in 01's words: the bytes end inside it, its form is wrong, or it is outside its range. Over any number of
-- groups.
-- Assumes nothing.
use Prim.Native.Nat.{ℕ, zero, suc, ◌+◌, ◌-◌, ◌≤◌, ◌<◌}
use mathlib.Core.Path.{◌≡◌, refl, sym, ap, ◌∙◌, subst}
use mathlib.Core.Bool.{Bool, true, false, cond}
use mathlib.Core.List.{List}
use mathlib.Core.Logic.{◌⊎◌, inl, inr, ⊎_elim, ◌↔◌}
use native.Mathlib.Omega.{arith}
use native.Mathlib.Nat.{le_refl, not-suc-le-zero}
use lib.ListN.{length, get_or, drop, get_or-eq_default}
use lib.Dec.{ltb}
use borrow.Author.Tests.{lt-ltb, le-ltb, ltb-true}
use Rattle.number.specs.Number.{Raw, got, short, wrong, after, read_groups, finish, read_number, groups}
use Rattle.number.specs.Number.{stop, next}
use Rattle.number.proofs.Encoding.{lt_or_ge}
use Rattle.number.proofs.Groups.{read_end, read_wrong, read_last, read_more}

-- each of the i bytes from at on is there and says that another group follows
abbrev pub Follow : (s : List ℕ) (at i : ℕ) → Type 0
Follow s at i = (j : ℕ) → j < i → 128 ≤ get_or s (at + j) 0

-- 01: "bytes end inside a number", before its n groups
pub record EndsInside (n : ℕ) (s : List ℕ) (at : ℕ) : Type 0 where
  pub i : ℕ
  pub few : i < n
  pub end : length s ≤ at + i
  pub follow : Follow s at i

-- 01: "the last of several groups is zero"
pub record ZeroLast (n : ℕ) (s : List ℕ) (at : ℕ) : Type 0 where
  pub i : ℕ
  pub several : 0 < i
  pub few : i < n
  pub inside : at + i < length s
  pub follow : Follow s at i
  pub zero : get_or s (at + i) 0 ≡ 0

-- 01: "number outside its range", which is up to a limit: with a greater limit it is read, as v
pub record Outside (s : List ℕ) (at limit : ℕ) : Type 0 where
  pub v : ℕ
  pub behind : ℕ
  pub above : limit < v
  pub reads : read_number s at v ≡ next v behind

-- the number ends with group i, of which Good is said
record Last (n : ℕ) (s : List ℕ) (at : ℕ) (Good : ℕ → ℕ → Type 0) : Type 0 where
  i : ℕ
  few : i < n
  inside : at + i < length s
  follow : Follow s at i
  low : get_or s (at + i) 0 < 128
  good : Good i (get_or s (at + i) 0)

-- a last group has to be at least `least` if it is the first, and else at least 1
abbrev Enough : (least i b : ℕ) → Type 0
Enough least zero b = least ≤ b
Enough least (suc i) b = 1 ≤ b

abbrev Less : (least i b : ℕ) → Type 0
Less least zero b = b < least
Less least (suc i) b = b < 1

-- what the bytes are, by what reading n groups of them gives
abbrev Found : (n least : ℕ) (s : List ℕ) (at : ℕ) → Raw → Type 0
Found n least s at (got v k) = Last n s at (Enough least)
Found n least s at short = EndsInside n s at
Found n least s at wrong = Follow s at n ⊎ Last n s at (Less least)

module _ (n least : ℕ) (s : List ℕ) (at : ℕ) (more : 128 ≤ get_or s at 0) where
  follow_next : (i : ℕ) → Follow s (at + 1) i → Follow s at (suc i)
  follow_next i f zero l = subst (λ (x : ℕ). 128 ≤ get_or s x 0) (omega arith) more
  follow_next i f (suc j) l = subst (λ (x : ℕ). 128 ≤ get_or s x 0) (omega arith) (f j (omega arith))

  next_at : (i : ℕ) → at + 1 + i ≡ at + suc i
  next_at i = omega arith

  last-next : {Good Good' : ℕ → ℕ → Type 0} → ((i b : ℕ) → Good i b → Good' (suc i) b) → Last n s (at + 1) Good → Last (suc n) s at Good'
  last-next {Good' = Good'} f l =
      let e = next_at l.i in
      record {
        i = suc l.i;
        few = omega (arith, l.few);
        inside = omega (arith, l.inside);
        follow = follow_next l.i l.follow;
        low = subst (λ (x : ℕ). get_or s x 0 < 128) e l.low;
        good = subst (λ (x : ℕ). Good' (suc l.i) (get_or s x 0)) e (f l.i _ l.good);
      }

  enough-next : (i b : ℕ) → Enough 1 i b → Enough least (suc i) b
  enough-next zero b h = h
  enough-next (suc i) b h = h

  less-next : (i b : ℕ) → Less 1 i b → Less least (suc i) b
  less-next zero b h = h
  less-next (suc i) b h = h

  found-next : (low : ℕ) (r : Raw) → Found n 1 s (at + 1) r → Found (suc n) least s at (after low 128 1 r)
  unfolding after
  found-next low (got v k) l = last-next enough-next l
  found-next low short e = record {
    i = suc e.i;
    few = omega (arith, e.few);
    end = omega (arith, e.end);
    follow = follow_next e.i e.follow;
  }
  found-next low wrong h = ⊎_elim (λ f. inl (follow_next n f)) (λ l. inr (last-next less-next l)) h

none : (s : List ℕ) (at : ℕ) → Follow s at 0
none s at j l = absurd (not-suc-le-zero l)

first : (n : ℕ) (s : List ℕ) (at : ℕ) {Good : ℕ → ℕ → Type 0} → at < length s → get_or s at 0 < 128 → Good 0 (get_or s at 0) → Last (suc n) s at Good
first n s at {Good} h l g =
    let e : at ≡ at + 0 = omega arith in
    record {
      i = 0;
      few = omega arith;
      inside = omega arith;
      follow = none s at;
      low = subst (λ (x : ℕ). get_or s x 0 < 128) e l;
      good = subst (λ (x : ℕ). Good 0 (get_or s x 0)) e g;
    }

found : (n least : ℕ) (s : List ℕ) (at : ℕ) → Found n least s at (read_groups n least (drop at s))
unfolding read_groups
found zero least s at = inl (none s at)
found (suc n) least s at =
    ⊎_elim
    (λ (h : at < length s).
    ⊎_elim
    (λ (l : get_or s at 0 < 128).
    ⊎_elim
    (λ (b : get_or s at 0 < least). subst (Found (suc n) least s at) (sym (read_wrong least s at h (suc n) (omega arith) l b)) (inr (first n s at h l b)))
    (λ (b : least ≤ get_or s at 0). subst (Found (suc n) least s at) (sym (read_last least s at h (suc n) (omega arith) l b)) (first n s at h l b))
    (lt_or_ge (get_or s at 0) least))
    (λ (m : 128 ≤ get_or s at 0).
    let e : suc n - 1 ≡ n = omega arith in
    subst (Found (suc n) least s at) (sym (read_more least s at h (suc n) (omega arith) m)) (found-next n least s at m _ _ (rw e (found n 1 s (at + 1)))))
    (lt_or_ge (get_or s at 0) 128))
    (λ (h : length s ≤ at).
    subst (Found (suc n) least s at) (sym (read_end least s at (suc n) (omega arith) h))
    (record { i = 0; few = omega arith; end = omega arith; follow = none s at }))
    (lt_or_ge at (length s))

-- ---- the refusals

module _ (n : ℕ) (s : List ℕ) (at : ℕ) where
  -- the groups that say that another follows end at one place
  one_end : (i j : ℕ) → Follow s at i → get_or s (at + i) 0 < 128 → Follow s at j → get_or s (at + j) 0 < 128 → i ≡ j
  one_end i j f l g m =
      ⊎_elim
      (λ (h : i < j). absurd (omega (arith, g i h)))
      (λ (h : j ≤ i). ⊎_elim (λ (h' : j < i). absurd (omega (arith, f j h'))) (λ (h' : i ≤ j). omega arith) (lt_or_ge j i))
      (lt_or_ge i j)

  end_low : (e : EndsInside n s at) → get_or s (at + e.i) 0 < 128
  end_low e = rw (get_or-eq_default s 0 e.end) (omega arith)

  last-inside : {Good : ℕ → ℕ → Type 0} → Last n s at Good → EndsInside n s at → ⊥
  last-inside l e =
      let same = one_end l.i e.i l.follow l.low e.follow (end_low e) in
      omega (arith, l.inside, e.end)

  zero_of : Last n s at (Less 0) → ZeroLast n s at
  zero_of l = go l.i refl l.good
    where
      go : (i : ℕ) → l.i ≡ i → Less 0 i (get_or s (at + l.i) 0) → ZeroLast n s at
      go zero p h = absurd (not-suc-le-zero h)
      go (suc i) p h = record {
        i = l.i;
        several = omega arith;
        few = l.few;
        inside = l.inside;
        follow = l.follow;
        zero = omega arith;
      }

  zero_low : (z : ZeroLast n s at) → get_or s (at + z.i) 0 < 128
  zero_low z = omega (arith, z.zero)

  last-zero : Last n s at (Enough 0) → ZeroLast n s at → ⊥
  last-zero l z =
      let same = one_end l.i z.i l.follow l.low z.follow (zero_low z) in
      go l.i refl l.good same
    where
      go : (i : ℕ) → l.i ≡ i → Enough 0 i (get_or s (at + l.i) 0) → l.i ≡ z.i → ⊥
      go zero p h e = omega (arith, z.several)
      go (suc i) p h e = omega (arith, z.zero, ap (λ (x : ℕ). get_or s (at + x) 0) e)

  short_when : (r : Raw) → Found n 0 s at r → EndsInside n s at → r ≡ short
  short_when (got v k) l e = absurd (last-inside l e)
  short_when short f e = refl
  short_when wrong h e = ⊎_elim (λ (f : Follow s at n). absurd (omega (arith, f e.i e.few, end_low e))) (λ l. absurd (last-inside l e)) h

  wrong_when : (r : Raw) → Found n 0 s at r → Follow s at n ⊎ ZeroLast n s at → r ≡ wrong
  wrong_when (got v k) l h = ⊎_elim (λ (f : Follow s at n). absurd (omega (arith, f l.i l.few, l.low))) (λ z. absurd (last-zero l z)) h
  wrong_when short e h =
      ⊎_elim
      (λ (f : Follow s at n). absurd (omega (arith, f e.i e.few, end_low e)))
      (λ z.
      let same = one_end z.i e.i z.follow (zero_low z) e.follow (end_low e) in
      absurd (omega (arith, z.inside, e.end)))
      h
  wrong_when wrong f h = refl

-- the groups that a refusal tells of
module _ (at limit : ℕ) where
  -- read whole, a number is refused with 3 or not at all
  whole : (v k x : ℕ) → x < 3 → finish at limit (got v k) ≡ stop x at → ⊥
  unfolding finish
  whole v k x l e = go (ltb limit v) e
    where
      go : (t : Bool) → cond t (stop 3 at) (next v (at + k)) ≡ stop x at → ⊥
      go true q = let z : 3 ≡ x = cc in omega arith
      go false q = let z : ◌≡◌ {A = ℕ} 0 1 = cc in omega arith

  unfinished : (r : Raw) → finish at limit r ≡ stop 1 at → r ≡ short
  unfolding finish
  unfinished (got v k) e = absurd (whole v k 1 (omega arith) e)
  unfinished short e = refl
  unfinished wrong e = let z : ◌≡◌ {A = ℕ} 2 1 = cc in absurd (omega arith)

  ill_formed : (r : Raw) → finish at limit r ≡ stop 2 at → r ≡ wrong
  unfolding finish
  ill_formed (got v k) e = absurd (whole v k 2 (omega arith) e)
  ill_formed short e = let z : ◌≡◌ {A = ℕ} 1 2 = cc in absurd (omega arith)
  ill_formed wrong e = refl

  -- with a limit that is v itself, what is read is v
  up_to_itself : (v k : ℕ) → finish at v (got v k) ≡ next v (at + k)
  unfolding finish
  up_to_itself v k = rw (le-ltb v v (le_refl v))

  outside : (s : List ℕ) (r : Raw) → read_groups groups 0 (drop at s) ≡ r → finish at limit r ≡ stop 3 at → Outside s at limit
  unfolding read_number finish
  outside s (got v k) p e = go (ltb limit v) refl e
    where
      go : (t : Bool) → ltb limit v ≡ t → cond t (stop 3 at) (next v (at + k)) ≡ stop 3 at → Outside s at limit
      go true l q = record { v = v; behind = at + k; above = ltb-true limit v l; reads = ap (finish at v) p ∙ up_to_itself v k }
      go false l q = let z : ◌≡◌ {A = ℕ} 0 1 = cc in absurd (omega arith)
  outside s short p e = let z : ◌≡◌ {A = ℕ} 1 3 = cc in absurd (omega arith)
  outside s wrong p e = let z : ◌≡◌ {A = ℕ} 2 3 = cc in absurd (omega arith)

  above_limit : (v behind : ℕ) (r : Raw) → limit < v → finish at v r ≡ next v behind → finish at limit r ≡ stop 3 at
  unfolding finish
  above_limit v behind (got w k) l e = go (ltb v w) e
    where
      go : (t : Bool) → cond t (stop 3 at) (next w (at + k)) ≡ next v behind → cond (ltb limit w) (stop 3 at) (next w (at + k)) ≡ stop 3 at
      go true q = let z : ◌≡◌ {A = ℕ} 0 1 = cc in absurd (omega arith)
      go false q =
          let same : w ≡ v = cc in
          rw (lt-ltb limit w (omega arith))
  above_limit v behind short l e = let z : ◌≡◌ {A = ℕ} 0 1 = cc in absurd (omega arith)
  above_limit v behind wrong l e = let z : ◌≡◌ {A = ℕ} 0 1 = cc in absurd (omega arith)

-- 01's 2 with 02 (xii)'s groups: the last group that there may be says that more follows, "or the last of several groups is zero"
abbrev pub WrongForm : (s : List ℕ) (at : ℕ) → Type 0
WrongForm s at = Follow s at groups ⊎ ZeroLast groups s at

pub wrong_form : (s : List ℕ) (at : ℕ) → read_groups groups 0 (drop at s) ≡ wrong → WrongForm s at
wrong_form s at e = ⊎_elim inl (λ l. inr (zero_of groups s at l)) (subst (Found groups 0 s at) e (found groups 0 s at))

module _ (s : List ℕ) (at limit : ℕ) where
  abbrev raw : Raw
  raw = read_groups groups 0 (drop at s)

  are : Found groups 0 s at raw
  are = found groups 0 s at

  -- 01's 1: "bytes end inside a number"
  pub refused_1 : (read_number s at limit ≡ stop 1 at) ↔ EndsInside groups s at
  unfolding read_number finish
  refused_1 = (
    λ e. subst (Found groups 0 s at) (unfinished at limit raw e) are,
    λ h. ap (finish at limit) (short_when groups s at raw are h),
  )

  -- 01's 2
  pub refused_2 : (read_number s at limit ≡ stop 2 at) ↔ WrongForm s at
  unfolding read_number finish
  refused_2 = (λ e. wrong_form s at (ill_formed at limit raw e), λ h. ap (finish at limit) (wrong_when groups s at raw are h))

  -- 01's 3 at a limit
  pub refused_3 : (read_number s at limit ≡ stop 3 at) ↔ Outside s at limit
  unfolding read_number
  refused_3 = (outside at limit s raw refl, λ o. above_limit at limit o.v o.behind raw o.above o.reads)
