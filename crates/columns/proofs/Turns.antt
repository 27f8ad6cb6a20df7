-- What holds at each turn of the loops: over pairs of rows, over digits and over threads.
-- Assumes nothing.
use Prim.Native.Nat.{ℕ, ◌+◌, ◌-◌, ◌*◌, ◌/◌, ◌^◌, ◌≤◌, ◌<◌}
use native.Mathlib.Nat.{le_antisymm}
use native.Mathlib.Omega.{arith}
use native.Mathlib.Decide.{ℕ_discrete, dec_le}
use mathlib.Core.Path.{◌≡◌, refl, sym, ap, ap₂, ◌∙◌, subst}
use mathlib.Core.Bool.{Bool}
use mathlib.Core.List.{List, ◌++◌}
use lib.ListN.{length, get_or, take, drop, length-append, length-take, length-drop, get_or-append}
use lib.Pow.{pow_mono}
use lib.Seq.{length-take-le, get_or-append-add, get_or-take, get_or-drop}
use borrow.Rule.Slice.PartMut.{put_mid}
use Rattle.bits.specs.Bit.{bit}
use Rattle.model.specs.Limits.{most_threads, most_events}
use Rattle.rows.specs.Sets.{order_in}
use Rattle.columns.specs.Columns.{Columns}
use Rattle.columns.specs.Swaps.{digits, insert, omit, Swapped, Stepped, Turned}
use Rattle.columns.proofs.Digits.{omit-insert, insert-omit, insert-lt, omit-lt, mix, mix_none, mix_all, mix_more}

-- ---- rows have exchanged their bits
pub swapped-none : (s a : ℕ) (old : List ℕ) → Swapped s a a old old
swapped-none s a old = record { long = refl; swap = λ t l g. absurd (omega arith); rest = λ i d. refl }

-- and then more rows
pub swapped-more : {s a b c : ℕ} {old mid new : List ℕ} → Swapped s a b old mid → Swapped s b c mid new → a ≤ b → b ≤ c → Swapped s a c old new
swapped-more {s} {a} {b} {c} {old} {mid} {new} h g ab bc = record {
  long = g.long ∙ h.long;
  swap = λ t l r. by t l r (dec_le b t);
  rest = λ i d. g.rest i (λ x y. d (omega arith) y) ∙ h.rest i (λ x y. d x (omega arith));
}
  where
    by : (t : ℕ) → a ≤ t → t < c → Dec (b ≤ t) → (x y : Bool) (u : ℕ) → u < most_events / 2
        → bit (get_or new (insert s x t) 0) (insert s y u) ≡ bit (get_or old (insert s y t) 0) (insert s x u)
    by t l r (yes z) x y u lu =
        g.swap t z r x y u lu
        ∙ ap (λ (v : ℕ). bit v (insert s x u)) (h.rest (insert s y t) (λ p q. let e = omit-insert s y t in omega arith))
    by t l r (no d) x y u lu =
        ap (λ (v : ℕ). bit v (insert s y u)) (g.rest (insert s x t) (λ p q. let e = omit-insert s x t in omega arith))
        ∙ h.swap t l (omega arith) x y u lu

-- of the rows whose numbers but for digit s are from a to b, those below t have exchanged their bits
pub record Swapping (s a b t : ℕ) (old now : List ℕ) : Type 0 where
  pub least : a ≤ t
  pub within : t ≤ b
  pub done : Swapped s a t old now

pub swapping_begun : (s a b : ℕ) (old : List ℕ) → a ≤ b → Swapping s a b a old old
swapping_begun s a b old l = record { least = omega arith; within = l; done = swapped-none s a old }

module _ {s a b t : ℕ} {old now : List ℕ} (h : Swapping s a b t old now) where
  pub swapping_next : {u : ℕ} {new : List ℕ} → Swapped s t u now new → t ≤ u → u ≤ b → Swapping s a b u old new
  swapping_next g l r = record { least = omega arith; within = r; done = swapped-more h.done g h.least l }

  pub swapping_all : {m : ℕ} → b ≤ t → b ≡ m → Swapped s a m old now
  swapping_all l e = subst (λ (x : ℕ). Swapped s a x old now) (le_antisymm h.within l ∙ e) h.done

-- ---- rows and bits below 2 ^ count have exchanged the digits below s of their numbers
pub record Turning (count s : ℕ) (old now : List ℕ) : Type 0 where
  pub long : length now ≡ length old
  pub mixed : (i j : ℕ) → i < 2 ^ count → j < 2 ^ count → bit (get_or now i 0) j ≡ bit (get_or old (mix s i j) 0) (mix s j i)

pub turning_begun : (count : ℕ) (old : List ℕ) → Turning count 0 old old
turning_begun count old = record {
  long = refl;
  mixed = λ i j li lj. ap₂ (λ (x y : ℕ). bit (get_or old x 0) y) (sym (mix_none i j)) (sym (mix_none j i));
}

-- there is no digit s
mix_past : (count s i j : ℕ) → count ≤ s → i < 2 ^ count → j < 2 ^ count → mix s i j ≡ j
mix_past count s i j l li lj = let m : 2 ^ count ≤ 2 ^ s = pow_mono l in mix_all s i j (omega arith) (omega arith)

module _ {count s : ℕ} {old now : List ℕ} (h : Turning count s old now) where
  -- digit s
  mixed-more : {new : List ℕ} → count ≤ digits → s < count → Swapped s 0 (2 ^ (count - 1)) now new
      → (i j : ℕ) → i < 2 ^ count → j < 2 ^ count → bit (get_or new i 0) j ≡ bit (get_or old (mix (s + 1) i j) 0) (mix (s + 1) j i)
  mixed-more {new} few l g i j li lj =
      subst (λ (x : ℕ). bit (get_or new x 0) j ≡ bit (get_or old (mix (s + 1) x j) 0) (mix (s + 1) j x)) (insert-omit s i)
      (subst (λ (y : ℕ). bit (get_or new (insert s (bit i s) (omit s i)) 0) y ≡ bit (get_or old (mix (s + 1) (insert s (bit i s) (omit s i)) y) 0) (mix (s + 1) y (insert s (bit i s) (omit s i)))) (insert-omit s j)
      (step (bit i s) (bit j s) (omit s i) (omit s j) (half i li) (half j lj)))
    where
      whole : count - 1 + 1 ≡ count
      whole = omega arith

      half : (i : ℕ) → i < 2 ^ count → omit s i < 2 ^ (count - 1)
      half i li = omit-lt s (count - 1) i (omega arith) (subst (λ (x : ℕ). i < 2 ^ x) (sym whole) li)

      back : (b : Bool) (t : ℕ) → t < 2 ^ (count - 1) → insert s b t < 2 ^ count
      back b t lt = subst (λ (x : ℕ). insert s b t < 2 ^ x) whole (insert-lt s (count - 1) b t (omega arith) lt)

      step : (b c : Bool) (t u : ℕ) → t < 2 ^ (count - 1) → u < 2 ^ (count - 1)
          → bit (get_or new (insert s b t) 0) (insert s c u)
          ≡ bit (get_or old (mix (s + 1) (insert s b t) (insert s c u)) 0) (mix (s + 1) (insert s c u) (insert s b t))
      step b c t u lt lu =
          let most : 2 ^ (count - 1) ≤ 2 ^ (digits - 1) = pow_mono {j = digits - 1} (omega arith) in
          g.swap t (omega arith) lt b c u (omega arith)
          ∙ h.mixed (insert s c t) (insert s b u) (back c t lt) (back b u lu)
          ∙ ap₂ (λ (x y : ℕ). bit (get_or old x 0) y) (mix_more s b c t u) (mix_more s c b u t)

  pub turning_next : {new : List ℕ} → count ≤ digits → Stepped s count now new → Turning count (s + 1) old new
  turning_next {new} few g = record { long = g.long ∙ h.long; mixed = by (dec_le count s) }
    where
      by : Dec (count ≤ s) → (i j : ℕ) → i < 2 ^ count → j < 2 ^ count → bit (get_or new i 0) j ≡ bit (get_or old (mix (s + 1) i j) 0) (mix (s + 1) j i)
      by (no d) i j li lj = mixed-more few (omega arith) (g.swapped (omega arith)) i j li lj
      by (yes z) i j li lj =
          ap (λ (l : List ℕ). bit (get_or l i 0) j) (g.same z) ∙ h.mixed i j li lj
          ∙ ap₂ (λ (x y : ℕ). bit (get_or old x 0) y)
          (mix_past count s i j z li lj ∙ sym (mix_past count (s + 1) i j (omega arith) li lj))
          (mix_past count s j i z lj li ∙ sym (mix_past count (s + 1) j i (omega arith) lj li))

  pub turning_all : count ≤ digits → digits ≤ s → Turned (2 ^ count) old now
  turning_all few g = record {
    long = h.long;
    turned = λ a la b lb.
        h.mixed b a lb la
        ∙ ap₂ (λ (x y : ℕ). bit (get_or old x 0) y) (mix_past count s b a (omega arith) lb la) (mix_past count s a b (omega arith) la lb);
  }

-- ---- a part of a list that is stored anew
module _ (xs ys : List ℕ) (a w : ℕ) (fits : a + w ≤ length xs) (long : length ys ≡ w) where
  front : length (take a xs) ≡ a
  front = length-take-le a xs (omega arith)

  put-before : (i : ℕ) → i < a → get_or (put_mid a w xs ys) i 0 ≡ get_or xs i 0
  put-before i l = get_or-append (take a xs) _ 0 i (rw front l) ∙ get_or-take a xs i 0 l

  put-behind : (i : ℕ) → get_or (put_mid a w xs ys) (a + i) 0 ≡ get_or (ys ++ drop w (drop a xs)) i 0
  put-behind i = ap (λ (x : ℕ). get_or (put_mid a w xs ys) (x + i) 0) (sym front) ∙ get_or-append-add (take a xs) _ i 0

  put_in : (i : ℕ) → i < w → get_or (put_mid a w xs ys) (a + i) 0 ≡ get_or ys i 0
  put_in i l = put-behind i ∙ get_or-append ys _ 0 i (rw long l)

  put-after : (i : ℕ) → get_or (put_mid a w xs ys) (a + (w + i)) 0 ≡ get_or xs (a + (w + i)) 0
  put-after i =
      put-behind (w + i) ∙ ap (λ (x : ℕ). get_or (ys ++ drop w (drop a xs)) (x + i) 0) (sym long) ∙ get_or-append-add ys _ i 0
      ∙ get_or-drop w (drop a xs) i 0 ∙ get_or-drop a xs (w + i) 0

  put-length : length (put_mid a w xs ys) ≡ length xs
  put-length = simp (length-append, length-take, length-drop) (omega arith)

-- ---- the orders of the threads below p are turned, of n threads
pub record Turns (rows : List ℕ) (n count p : ℕ) (out : List ℕ) : Type 0 where
  pub within : p ≤ n
  pub room : length out ≡ most_threads * most_events
  pub done : Columns p (2 ^ count) rows out
  pub left : (i : ℕ) → p * most_events ≤ i → get_or out i 0 ≡ get_or rows i 0

pub turns-begun : (rows : List ℕ) (n count : ℕ) → length rows ≡ most_threads * most_events → Turns rows n count 0 rows
turns-begun rows n count e = record {
  within = omega arith;
  room = e;
  done = record { turned = λ p l. absurd (omega arith) };
  left = λ i l. refl;
}

module _ {rows : List ℕ} {n count p : ℕ} {out : List ℕ} (h : Turns rows n count p out) where
  pub turns_next : (w : ℕ) {part : List ℕ} → n ≤ most_threads → count ≤ digits → p < n → w ≡ most_events
      → Turned (2 ^ count) (take w (drop (p * most_events) out)) part → Turns rows n count (p + 1) (put_mid (p * most_events) w out part)
  turns_next w {part} few digs l e g = record {
    within = omega arith;
    room = put-length out part (p * most_events) w fits long ∙ h.room;
    done = record { turned = λ q lq a la b lb. here_or_before q lq a la b lb (ℕ_discrete q p) };
    left = λ i li.
        subst (λ (x : ℕ). get_or (put_mid (p * most_events) w out part) x 0 ≡ get_or rows x 0) (sym (beyond i li))
        (put-after out part (p * most_events) w fits long (i - (p * most_events + w)) ∙ h.left _ (omega arith));
  }
    where
      fits : p * most_events + w ≤ length out
      fits = omega (arith, h.room)

      long : length part ≡ w
      long = g.long ∙ simp (length-take, length-drop) (omega arith)

      beyond : (i : ℕ) → (p + 1) * most_events ≤ i → i ≡ p * most_events + (w + (i - (p * most_events + w)))
      beyond i li = omega arith

      most : 2 ^ count ≤ most_events
      most = pow_mono {j = digits} digs

      here_or_before : (q : ℕ) → q < p + 1 → (a : ℕ) → a < 2 ^ count → (b : ℕ) → b < 2 ^ count → Dec (q ≡ p)
          → order_in (put_mid (p * most_events) w out part) q b a ≡ order_in rows q a b
      here_or_before q lq a la b lb (yes z) =
          let m = most in
          subst (λ (x : ℕ). order_in (put_mid (p * most_events) w out part) x b a ≡ order_in rows x a b) (sym z)
          (ap (λ (x : ℕ). bit x a) (put_in out part (p * most_events) w fits long b (omega arith))
          ∙ g.turned a la b lb
          ∙ ap (λ (x : ℕ). bit x b)
          (get_or-take w (drop (p * most_events) out) a 0 (omega arith) ∙ get_or-drop (p * most_events) out a 0 ∙ h.left (p * most_events + a) (omega arith)))
      here_or_before q lq a la b lb (no d) =
          let m = most in
          ap (λ (x : ℕ). bit x a) (put-before out part (p * most_events) w fits long (q * most_events + b) (omega arith))
          ∙ h.done.turned q (omega arith) a la b lb

  pub turns-all : n ≤ p → Columns n (2 ^ count) rows out
  turns-all g = subst (λ (x : ℕ). Columns x (2 ^ count) rows out) (le_antisymm h.within g) h.done

-- of fewer events
pub columns_fewer : {n m k : ℕ} {rows out : List ℕ} → Columns n m rows out → k ≤ m → Columns n k rows out
columns_fewer h l = record { turned = λ p lp a la b lb. h.turned p lp a (omega arith) b (omega arith) }
