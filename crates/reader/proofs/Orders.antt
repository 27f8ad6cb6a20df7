-- The ways through reading a pair, and the turns of reading an order.
-- Assumes nothing.
use Prim.Native.Nat.{ℕ, zero, suc, ◌+◌, ◌-◌, ◌*◌, ◌^◌, ◌≤◌, ◌<◌}
use mathlib.Core.Path.{◌≡◌, refl, ap, sym, ◌∙◌}
use mathlib.Core.List.{List}
use native.Mathlib.Omega.{arith}
use native.Mathlib.Nat.{mul-le-mul}
use lib.Bits.{bit_or}
use lib.ListN.{length, get_or, set, replicate, length-set, length-replicate}
use mir.Syntax.{w64}
use mir.Val.{Fits}
use Rattle.number.specs.Number.{read_number}
use Rattle.number.specs.Reader.{stop, next, onward, up_to, turns}
use Rattle.number.proofs.Laws.{read_within}
use Rattle.number.proofs.Turns.{turns-none, turns-stop, turns_next}
use Rattle.number.specs.declared.Refusal.{Refusal}
use Rattle.std.specs.Prelude.{Result}
use Rattle.model.specs.Limits.{most_events}
use Rattle.model.specs.Record.{Rows, rising_pair, next_pair, order}
use Rattle.case.specs.Held.{pad}
use Rattle.case.proofs.Pad.{pad_get, pad-put, pad-zeros}
use Rattle.reader.specs.Answers.{Stores, Done, Padded, pairs, Ran, in_row, model_pair}
use Rattle.reader.specs.declared.Pair as code
use Rattle.bits.specs.Bit.{width}
use Rattle.reader.proofs.Forward.{gone, forward_rising_pair}

-- both are below k, which is within the limit
pub record In (k a b : ℕ) : Type 0 where
  pub first : a < k
  pub second : b < k

rank-small : (k a b : ℕ) → k ≤ most_events → In k a b → a * k + b + 1 ≤ most_events * most_events + most_events
rank-small k a b h i =
    let l : a ≤ most_events = omega (arith, i.first) in
    let p : a * k ≤ most_events * most_events = mul-le-mul l h in
    omega (arith, i.second)

-- the two numbers of a pair
module _ (s : List ℕ) (at k a p₁ b p₂ : ℕ) (e₁ : next a p₁ ≡ read_number s at (k - 1)) (e₂ : next b p₂ ≡ read_number s p₁ (k - 1)) (z : 0 < k) (h : k ≤ most_events) where
  both_in : In k a b
  both_in = record {
    first = omega (arith, read_within s at (k - 1) a p₁ (sym e₁));
    second = omega (arith, read_within s p₁ (k - 1) b p₂ (sym e₂));
  }

  pub row_fits : Fits w64 (a * k)
  row_fits = record { fits = omega (arith, rank-small k a b h both_in) }

  pub rank-fits : Fits w64 (a * k + b)
  rank-fits = record { fits = omega (arith, rank-small k a b h both_in) }

-- what is read as a pair is in range
pub pair_in : (s : List ℕ) (at k least : ℕ) (q : code.Pair) (p : ℕ) → next (model_pair q) p ≡ rising_pair k least s at → 0 < k → In k q.a q.b
pair_in s at k least q p e z =
    let g = gone (forward_rising_pair {s = s} k least) at (model_pair q) p (sym e) in
    record { first = omega (arith, g.holds.0.0); second = omega (arith, g.holds.0.1) }

-- of an order, left pairs are left to read, of rank least or above
pub record Pairing (s : List ℕ) (at k count : ℕ) (array₀ array : List ℕ) (place least left : ℕ) : Type 0 where
  pub rows : List ℕ
  pub stored : array ≡ pad most_events rows
  pub size : length rows ≡ k
  pub kept : length array ≡ length array₀
  pub room : length array ≡ most_events
  pub small : k ≤ most_events
  pub few : left ≤ k * k
  pub same : onward (λ o p. next o.rows p) (turns left (next_pair k) (record { least = least; rows = rows }) s place) ≡ pairs k count s at

module _ (s : List ℕ) (at k : ℕ) where
  pub no_count : (x p : ℕ) → stop x p ≡ read_number s at (k * k) → order k s at ≡ stop x p
  unfolding order up_to
  no_count x p e = rw (← e)

  module _ (count p : ℕ) (e₁ : next count p ≡ read_number s at (k * k)) where
    pub count_in : count ≤ k * k
    count_in = read_within s at (k * k) count p (sym e₁)

    order_is : order k s at ≡ pairs k count s p
    unfolding order up_to pairs
    order_is = rw (← e₁)

    pub whole-order : (r : Result ℕ Refusal) (array : List ℕ) → Stores (Padded most_events array) (pairs k count s p) r → Stores (Padded most_events array) (order k s at) r
    whole-order r array h = rw order_is h

module _ (s : List ℕ) (at k count : ℕ) (array₀ : List ℕ) where
  pub begun : (k ≤ most_events) × (count ≤ k * k) → array₀ ≡ replicate most_events 0 → Pairing s at k count array₀ array₀ at 0 count
  unfolding pairs
  begun h z = record {
    rows = replicate k 0;
    stored = z ∙ sym (pad-zeros most_events k h.0);
    size = length-replicate k 0;
    kept = refl;
    room = ap length z ∙ length-replicate {A = ℕ} most_events 0;
    small = h.0;
    few = h.1;
    same = refl;
  }

  module _ (array : List ℕ) (p₀ least left : ℕ) (h : Pairing s at k count array₀ array p₀ least left) where
    pub all_read : left ≤ 0 → Done (Padded most_events array) (pairs k count s at) p₀
    all_read l = record {
      what = h.rows;
      is = rw (← h.same, turns-none (next_pair k) s left (record { least = least; rows = h.rows }) p₀ l);
      stored = record { stored = h.stored; long = omega (arith, h.size, h.small) };
    }

    module _ (l : 0 < left) where
      pub some-events : 0 < k
      some-events = go k h.few
        where
          go : (k : ℕ) → left ≤ k * k → 0 < k
          go zero f = absurd (omega (arith, f))
          go (suc k) f = omega arith

      pub refusal : (x p : ℕ) → stop x p ≡ rising_pair k least s p₀ → pairs k count s at ≡ stop x p
      unfolding next_pair
      refusal x p g = rw (← h.same, turns-stop (next_pair k) s left (record { least = least; rows = h.rows }) p₀ x p l (rw (← g)))

      module _ (q : code.Pair) (p : ℕ) (g : next (model_pair q) p ≡ rising_pair k least s p₀) where
        abbrev a : ℕ
        a = q.a

        abbrev b : ℕ
        b = q.b

        in_rows : In k a b
        in_rows = pair_in s p₀ k least q p g some-events

        pub place_in : a < length array
        place_in = omega (arith, in_rows.first, h.small, h.room)

        pub place-fits : Fits w64 (a * 8)
        place-fits = record { fits = omega (arith, in_rows.first, h.small) }

        pub bit_in : b < width
        bit_in = omega (arith, in_rows.second, h.small)

        pub low_fits : Fits w64 (b + 1)
        low_fits = record { fits = omega (arith, in_rows.second, h.small) }

        pub low_in : b + 1 ≤ k
        low_in = omega (arith, in_rows.second)

        pub row_in : a < k
        row_in = in_rows.first

        module _ (v p' low v' left' : ℕ) (t : Ran s k a p (b + 1) v (left - 1) p' low v' left') where
          pub one-run : v ≡ bit_or (get_or array a 0) (2 ^ b) → Pairing s at k count array₀ (set array a v') p' (a * k + low) left'
          unfolding next_pair
          one-run ev =
              let w : rising_pair k least s p₀ ≡ next (record { a = a; b = b }) p = sym g in
              let i : a < length h.rows = omega (arith, in_rows.first, h.size) in
              let old : v ≡ bit_or (get_or h.rows a 0) (2 ^ b) = rw (ev, h.stored, pad_get most_events h.rows a i) in
              let z : a * k + b + 1 ≡ a * k + (b + 1) = omega arith in
              let one : next_pair k (record { least = least; rows = h.rows }) s p₀ ≡ next (in_row k a (b + 1) v h.rows) p = rw (w, old, z) in
              let turn : turns left (next_pair k) (record { least = least; rows = h.rows }) s p₀ ≡ turns (left - 1) (next_pair k) (in_row k a (b + 1) v h.rows) s p =
              turns_next (next_pair k) s left (left - 1) (record { least = least; rows = h.rows }) (in_row k a (b + 1) v h.rows) p₀ p (omega arith) one in
              record {
                rows = set h.rows a v';
                stored = rw h.stored (pad-put most_events h.rows a v' i);
                size = length-set h.rows a v' ∙ h.size;
                kept = length-set array a v' ∙ h.kept;
                room = length-set array a v' ∙ h.room;
                small = h.small;
                few = omega (arith, h.few, t.fewer);
                same = ap (onward (λ (o : Rows) (p : ℕ). next o.rows p)) (sym (turn ∙ t.same h.rows i)) ∙ h.same;
              }
