-- The ways through reading a store's number, and the turns of counting stores and of reading a write order.
-- Assumes nothing.
use Prim.Native.Nat.{ℕ, ◌+◌, ◌-◌, ◌^◌, ◌≤◌, ◌<◌}
use mathlib.Core.Path.{◌≡◌, refl, ap, sym, ◌∙◌}
use mathlib.Core.List.{List}
use native.Mathlib.Omega.{arith}
use lib.ListN.{length, set, replicate, length-append, length-set, length-replicate}
use mir.Syntax.{w8}
use mir.Val.{Fits}
use Rattle.finite.specs.Tests.{count}
use Rattle.bits.specs.Bit.{bit, width}
use Rattle.bits.proofs.Bits.{bit-zero, bit_with}
use lib.Bits.{bit_or}
use Rattle.reader.proofs.Forward.{gone, forward_unlisted}
use Rattle.number.specs.Number.{read_number}
use Rattle.number.specs.Reader.{stop, next}
use Rattle.number.proofs.Laws.{read_within}
use Rattle.model.specs.Limits.{most_events}
use Rattle.model.specs.Record.{member, unlisted, write_order}
use Rattle.case.specs.Held.{pad}
use Rattle.reader.specs.Answers.{Done, Padded}
use Rattle.case.specs.Stores.{store_at}
use Rattle.case.proofs.Pad.{pad-set}
use Rattle.case.proofs.WriteOrders.{member-snoc}
use Rattle.finite.proofs.Tests.{count-le}
use Rattle.reader.proofs.Filling.{Filling, filling_begun, filling_all, filling_stop, filling_next, done-map}

module _ (s : List ℕ) (at k v p : ℕ) (e : next v p ≡ read_number s at (k - 1)) where
  pub event-small : 0 < k → k ≤ most_events → v < most_events
  event-small z h = omega (arith, read_within s at (k - 1) v p (sym e))

-- the stores read stand in the array, and are marked
pub record Listed (array : List ℕ) (marks : ℕ) (before : List ℕ) : Type 0 where
  pub stored : array ≡ pad most_events before
  pub long : length before ≤ most_events
  pub marked : (e : ℕ) → bit marks e ≡ member e before

pub record Writing (s : List ℕ) (at k x : ℕ) (ks ts array₀ : List ℕ) (total : ℕ) (array : List ℕ) (place marks j : ℕ) : Type 0 where
  pub filling : Filling (Listed array marks) (λ before. unlisted k (store_at ks ts x) (λ e. member e before)) (write_order k (store_at ks ts x) s at) s total place j
  pub counted : total ≤ k
  pub small : k ≤ most_events
  pub room : length array ≡ most_events
  pub kept : length array ≡ length array₀

module _ (s : List ℕ) (at k x : ℕ) (ks ts array₀ : List ℕ) (total : ℕ) where
  pub writing_begun : array₀ ≡ replicate most_events 0 → k ≤ most_events → total ≡ count k (store_at ks ts x) → Writing s at k x ks ts array₀ total array₀ at 0 0
  unfolding write_order pad member
  writing_begun z h e = record {
    filling = rw (← e) (filling_begun (Listed array₀ 0) (λ before. unlisted k (store_at ks ts x) (λ e. member e before)) s total at
        (record { stored = z; long = omega arith; marked = λ e. bit-zero e }));
    counted = omega (arith, count-le k (store_at ks ts x));
    small = h;
    room = ap length z ∙ length-replicate {A = ℕ} most_events 0;
    kept = refl;
  }

  module _ (array : List ℕ) (p₀ marks j : ℕ) (h : Writing s at k x ks ts array₀ total array p₀ marks j) where
    pub writing_all : total ≤ j → Done (Padded most_events array) (write_order k (store_at ks ts x) s at) p₀
    writing_all l =
        done-map (Listed array marks) (Padded most_events array) (λ a t. record { stored = t.stored; long = t.long }) (write_order k (store_at ks ts x) s at) p₀
        (filling_all _ _ _ _ _ _ _ h.filling l)

    module _ (l : j < total) where
      pub writing_some : 0 < k
      writing_some = omega (arith, h.counted)

      pub writing_place : j < length array
      writing_place = omega (arith, h.counted, h.small, h.room)

      same_test : (before : List ℕ) → Listed array marks before → unlisted k (store_at ks ts x) (bit marks) ≡ unlisted k (store_at ks ts x) (λ e. member e before)
      same_test before t = ap (unlisted k (store_at ks ts x)) (λ i e. t.marked e i)

      pub writing_stop : (y p : ℕ) → stop y p ≡ unlisted k (store_at ks ts x) (bit marks) s p₀ → write_order k (store_at ks ts x) s at ≡ stop y p
      writing_stop y p g = filling_stop _ _ _ _ _ _ _ h.filling l y p (λ before c t. ap (λ q. q s p₀) (sym (same_test before t)) ∙ sym g)

      module _ (v p : ℕ) (g : next v p ≡ unlisted k (store_at ks ts x) (bit marks) s p₀) where
        store_below : v < k
        store_below = omega (arith, writing_some, (gone (forward_unlisted {s = s} k (store_at ks ts x) (bit marks)) p₀ v p (sym g)).holds.0)

        pub writing_byte : Fits w8 v
        writing_byte = record { fits = omega (arith, store_below, h.small) }

        pub writing_bit : v < width
        writing_bit = omega (arith, store_below, h.small)

        pub writing_next : (marks' : ℕ) → marks' ≡ bit_or marks (2 ^ v) → Writing s at k x ks ts array₀ total (set array j v) p marks' (j + 1)
        writing_next marks' m = record {
          filling = filling_next _ _ _ _ _ _ _ h.filling l v p
              (λ before c t. ap (λ q. q s p₀) (sym (same_test before t)) ∙ sym g)
              (Listed (set array j v) marks')
              (λ before c t. record {
                stored = rw t.stored (pad-set most_events before j v c (omega (arith, h.counted, h.small)));
                long = simp length-append (omega (arith, c, h.counted, h.small));
                marked = λ i. ap (λ w. bit w i) m ∙ bit_with marks v i ∙ rw (t.marked i) (sym (member-snoc i before v));
              });
          counted = h.counted;
          small = h.small;
          room = length-set array j v ∙ h.room;
          kept = length-set array j v ∙ h.kept;
        }
