-- A run of pairs of one row: numbers of one byte each.
-- Assumes nothing.
use Prim.Native.Nat.{ℕ, ◌+◌, ◌-◌, ◌*◌, ◌%◌, ◌^◌, ◌≤◌, ◌<◌}
use mathlib.Core.Path.{◌≡◌, ap, sym, ◌∙◌}
use mathlib.Core.List.{List}
use mathlib.Core.Bool.{Bool, true, ◌&&◌}
use native.Mathlib.Omega.{arith}
use lib.Bits.{bit_or}
use lib.ListN.{length, get_or}
use lib.Seq.{set-set, get_or-set_same}
use lib.Dec.{eqb, ltb, leb}
use borrow.Author.Tests.{le-leb, le-ltb, ltb-true, leb-true, eqb-true}
use Rattle.finite.proofs.Tests.{and_l, and_r}
use mir.Syntax.{w64}
use mir.Val.{Fits}
use Rattle.number.specs.Number.{read_number, finish, groups}
use Rattle.number.specs.Reader.{next, unless, up_to, below}
use Rattle.number.proofs.Groups.{read_last}
use Rattle.number.proofs.Turns.{turns_next}
use Rattle.model.specs.Limits.{most_events}
use Rattle.model.specs.Record.{Rows, pair, rising_pair, with_pair, next_pair}
use Rattle.reader.specs.Answers.{at_once, follows_at, Ran, Rose, in_row}

-- a byte below 128 and within the limit is a number by itself
one_byte : (s : List ℕ) (at limit : ℕ) → at < length s → get_or s at 0 < 128 → get_or s at 0 ≤ limit → read_number s at limit ≡ next (get_or s at 0) (at + 1)
unfolding read_number finish
one_byte s at limit i h l = rw (read_last 0 s at i groups (omega arith) h (omega arith), le-ltb limit (get_or s at 0) l)

-- two bytes below k, in turn, are a pair
two_bytes : (s : List ℕ) (at k least a b : ℕ) → k ≤ most_events → at + 1 < length s → get_or s at 0 ≡ a → get_or s (at + 1) 0 ≡ b
    → a < k → b < k → least ≤ a * k + b
    → rising_pair k least s at ≡ next (record { a = a; b = b }) (at + 1 + 1)
unfolding rising_pair unless pair up_to below
two_bytes s at k least a b m i ea eb ha hb l =
    let e₁ : read_number s at (k - 1) ≡ next a (at + 1) = rw (← ea) (one_byte s at (k - 1) (omega arith) (omega arith) (omega arith)) in
    let e₂ : read_number s (at + 1) (k - 1) ≡ next b (at + 1 + 1) = rw (← eb) (one_byte s (at + 1) (k - 1) (omega arith) (omega arith) (omega arith)) in
    rw (e₁, e₂, le-leb least (a * k + b) l)

-- the order so far with one more pair of row a
row_with : (k a low row b : ℕ) (rows : List ℕ) → a < length rows
    → with_pair k (in_row k a low row rows) (record { a = a; b = b }) ≡ in_row k a (b + 1) (bit_or row (2 ^ b)) rows
row_with k a low row b rows i =
    let z : a * k + b + 1 ≡ a * k + (b + 1) = omega arith in
    rw (get_or-set_same rows a row 0 i, set-set, z)

module _ (s : List ℕ) (k a at low₀ row₀ left₀ : ℕ) where
  module _ (p low row left b : ℕ) (h : Ran s k a at low₀ row₀ left₀ p low row left) where
    pub ran-next : 0 < left → p + 1 < length s → get_or s p 0 ≡ a → get_or s (p + 1) 0 ≡ b → low ≤ b → b < k
        → (row' : ℕ) → row' ≡ bit_or row (2 ^ b) → Ran s k a at low₀ row₀ left₀ (p + 2) (b + 1) row' (left - 1)
    unfolding next_pair
    ran-next l i ea eb lo hi row' er =
        let q : p + 1 + 1 ≡ p + 2 = omega arith in
        let w : rising_pair k (a * k + low) s p ≡ next (record { a = a; b = b }) (p + 2) =
        rw (← q) (two_bytes s p k (a * k + low) a b h.within.1 i ea eb h.within.0 hi (omega arith)) in
        let on : (rows : List ℕ) → a < length rows → next_pair k (in_row k a low row rows) s p ≡ next (in_row k a (b + 1) row' rows) (p + 2) =
        λ rows j. rw (w, er) (ap (λ (o : Rows). next o (p + 2)) (row_with k a low row b rows j)) in
        record {
          within = h.within;
          inside = omega arith;
          fewer = omega (arith, h.fewer);
          same = λ rows j. h.same rows j ∙ turns_next (next_pair k) s left (left - 1) (in_row k a low row rows) (in_row k a (b + 1) row' rows) p (p + 2) (omega arith) (on rows j);
        }

-- one run behind the other
pub ran_then : (s : List ℕ) (k a at low row left p low' row' left' q low'' row'' left'' : ℕ)
    → Ran s k a at low row left p low' row' left' → Ran s k a p low' row' left' q low'' row'' left'' → Ran s k a at low row left q low'' row'' left''
ran_then s k a at low row left p low' row' left' q low'' row'' left'' f g = record {
  within = f.within;
  inside = g.inside;
  fewer = omega (arith, f.fewer, g.fewer);
  same = λ rows j. f.same rows j ∙ g.same rows j;
}

-- what the test of the next pair says
pub record Next (s : List ℕ) (at a low left : ℕ) : Type 0 where
  pub some : 0 < left
  pub first : get_or s at 0 ≡ a
  pub second : low ≤ get_or s (at + 1) 0

next_of : (s : List ℕ) (at a low left : ℕ) → follows_at s at a low left ≡ true → Next s at a low left
unfolding follows_at
next_of s at a low left e =
    let both : (eqb (get_or s at 0) a && leb low (get_or s (at + 1) 0)) ≡ true = and_r (ltb 0 left) _ e in
    record {
      some = ltb-true 0 left (and_l (ltb 0 left) _ e);
      first = eqb-true (get_or s at 0) a (and_l (eqb (get_or s at 0) a) _ both);
      second = leb-true low (get_or s (at + 1) 0) (and_r (eqb (get_or s at 0) a) _ both);
    }

-- the pairs taken so far, and room in the bytes for those to come
pub record Rising (s : List ℕ) (a at low₀ row₀ most p low row left : ℕ) : Type 0 where
  pub rose : Rose s a at low₀ row₀ most p low row left
  pub room : left * 2 ≤ length s - p
  pub size : length s < 2 ^ 64

module _ (s : List ℕ) (a at low₀ row₀ most p low row left : ℕ) (h : Rising s a at low₀ row₀ most p low row left) where
  module _ (t : Bool) (et : t ≡ follows_at s p a low left) (yes : t ≡ true) where
    here : Next s p a low left
    here = next_of s p a low left (sym et ∙ yes)

    pub second_there : p + 1 < length s
    second_there = omega (arith, h.room, here.some)

    pub second_fits : Fits w64 (p + 1)
    second_fits = record { fits = omega (arith, h.room, here.some, h.size) }

    pub next_fits : Fits w64 (p + 2)
    next_fits = record { fits = omega (arith, h.room, here.some, h.size) }

    pub fewer_left : left - 1 < left
    fewer_left = omega (arith, here.some)

    pub some_left : 1 ≤ left
    some_left = here.some

    pub one_taken : (b row' : ℕ) → (b ≡ get_or s (p + 1) 0) × (b < 256) → row' ≡ bit_or row (2 ^ (b % most_events))
        → Rising s a at low₀ row₀ most (p + 2) (b + 1) row' (left - 1)
    one_taken b row' eb er = record {
      rose = record {
        fewer = omega (arith, h.rose.fewer);
        up = omega (arith, h.rose.up, here.second, eb.0);
        place = omega (arith, h.rose.place, h.rose.fewer, here.some);
        ran = λ k more w hi.
            let lo : low ≤ b = rw eb.0 here.second in
            let z : left - 1 + more ≡ left + more - 1 = omega (arith, here.some) in
            let m : b % most_events ≡ b = omega (arith, w.1) in
            let so : Ran s k a at low₀ row₀ (most + more) p low row (left + more) = h.rose.ran k more w (omega arith) in
            rw z
            (ran-next s k a at low₀ row₀ (most + more) p low row (left + more) b so (omega (arith, here.some)) second_there here.first (sym eb.0) lo (omega arith) row'
            (rw m at er));
      };
      room = omega (arith, h.room);
      size = h.size;
    }

-- the run so far, where its events are below k, and room in the bytes for its pairs to come
pub record Running (s : List ℕ) (k a at low₀ row₀ left₀ last p low row left missed : ℕ) : Type 0 where
  pub within : (a < k) × (k ≤ most_events)
  pub ran : low ≤ k → Ran s k a at low₀ row₀ left₀ p low row left
  pub room : (left - last) * 2 ≤ length s - p
  pub back : last ≤ left
  pub small : left < 2 ^ 64

module _ (s : List ℕ) (k a at low₀ row₀ left₀ last p low row left missed : ℕ) (h : Running s k a at low₀ row₀ left₀ last p low row left missed) where
  module _ (t : Bool) (et : t ≡ (eqb missed 0 && leb at_once (left - last))) (yes : t ≡ true) where
    enough : at_once ≤ left - last
    enough = leb-true at_once (left - last) (and_r (eqb missed 0) _ (sym et ∙ yes))

    module _ (p' low' row' m : ℕ) (r : Rose s a p low row at_once p' low' row' m) where
      pub run_turn : Running s k a at low₀ row₀ left₀ last p' low' row' (left - at_once + m) m
      run_turn = record {
        within = h.within;
        ran = λ l.
            let whole : at_once + (left - at_once) ≡ left = omega (arith, enough) in
            let rest : m + (left - at_once) ≡ left - at_once + m = omega arith in
            let on : Ran s k a p low row left p' low' row' (left - at_once + m) = rw (whole, rest) at (r.ran k (left - at_once) h.within l) in
            ran_then s k a at low₀ row₀ left₀ p low row left p' low' row' (left - at_once + m) (h.ran (omega (arith, r.up))) on;
        room = omega (arith, enough, h.room, r.place, r.fewer);
        back = omega (arith, enough);
        small = omega (arith, enough, r.fewer, h.small);
      }

-- a pair that stands in two bytes
pub pair_at_once : (s : List ℕ) (at k least m a b : ℕ) → m ≡ 0 → (1 - m) * 2 ≤ length s - at → k ≤ most_events → a ≡ get_or s at 0 → b ≡ get_or s (at + 1) 0
    → a < k → b < k → least ≤ a * k + b → next (record { a = a; b = b }) (at + 2) ≡ rising_pair k least s at
pair_at_once s at k least m a b z room h ea eb la lb l =
    let q : at + 1 + 1 ≡ at + 2 = omega arith in
    sym (two_bytes s at k least a b h (omega arith) (sym ea) (sym eb) la lb l ∙ ap (λ (p : ℕ). next (record { a = a; b = b }) p) q)
