-- The turns of reading lists, each into its own part of an array.
-- Assumes nothing.
use Prim.Native.Nat.{ℕ, ◌+◌, ◌-◌, ◌*◌, ◌≤◌, ◌<◌}
use mathlib.Core.Path.{◌≡◌, refl, ap, ◌∙◌}
use mathlib.Core.List.{List, [], ◌∷◌, ◌++◌}
use native.Mathlib.Omega.{arith}
use lib.ListN.{length, take, drop, replicate, length-append, length-take, length-drop, length-replicate}
use Rattle.number.specs.Reader.{Out, Reader, stop, turns, another, times}
use Rattle.model.specs.Limits.{most_threads, most_addresses, most_events}
use Rattle.model.specs.Record.{order, write_order, next_write_order}
use Rattle.case.specs.Held.{pad, rows_of}
use Rattle.case.specs.Stores.{store_at}
use Rattle.case.proofs.Pad.{length-pad, rows_of-snoc, part-zeros, part-stored}
use Rattle.reader.specs.Answers.{Done, Padded, Tabled}
use borrow.Rule.Slice.PartMut.{put_mid}
use Rattle.reader.proofs.Filling.{Filling, filling_begun, filling_all, filling_stop, filling_next}

-- with a list stored in its next part a table has that list too
module _ (total : ℕ) (array : List ℕ) (rs : List (List ℕ)) (a w : ℕ) (h : Tabled total array rs) (ea : length rs * most_events ≡ a) (ew : w ≡ most_events) (fits : a + most_events ≤ total) where
  list_stored : (part xs : List ℕ) → Padded most_events part xs → Tabled total (put_mid a w array part) (rs ++ (xs ∷ []))
  list_stored part xs t =
      let l : length (rows_of most_events rs) ≡ a = h.long ∙ ea in
      let lp : length part ≡ most_events = ap length t.stored ∙ length-pad most_events xs t.long in
      let whole : rows_of most_events (rs ++ (xs ∷ [])) ≡ rows_of most_events rs ++ part = rows_of-snoc most_events rs xs ∙ rw t.stored in
      record {
        stored = part-stored total most_events array (rows_of most_events rs) a w h.stored l ew fits part lp ∙ rw whole;
        long = rw whole (simp length-append (omega (arith, l, lp, ea)));
      }

-- of n lists, for which there is room for most, p are read, each by r at its number
pub record Table (most : ℕ) (r : ℕ → Reader (List ℕ)) (all : Out (List (List ℕ))) (s : List ℕ) (n : ℕ) (array₀ array : List ℕ) (place p : ℕ) : Type 0 where
  pub filling : Filling (Tabled (most * most_events) array) (λ rs. r (length rs)) all s n place p
  pub room : length array ≡ most * most_events
  pub kept : length array ≡ length array₀

pub table-begun : (most : ℕ) (r : ℕ → Reader (List ℕ)) (s : List ℕ) (at n : ℕ) (array₀ : List ℕ) → array₀ ≡ replicate (most * most_events) 0
    → Table most r (turns n (λ rs. another (r (length rs)) rs) [] s at) s n array₀ array₀ at 0
unfolding pad rows_of
table-begun most r s at n array₀ z =
    let none : most * most_events - 0 ≡ most * most_events = omega arith in
    record {
      filling = filling_begun (Tabled (most * most_events) array₀) (λ rs. r (length rs)) s n at (record { stored = z ∙ rw none; long = refl });
      room = ap length z ∙ length-replicate {A = ℕ} (most * most_events) 0;
      kept = refl;
    }

module _ (most : ℕ) (r : ℕ → Reader (List ℕ)) (all : Out (List (List ℕ))) (s : List ℕ) (n : ℕ) (array₀ array : List ℕ) (p₀ p : ℕ) (h : Table most r all s n array₀ array p₀ p) where
  pub table-all : n ≤ p → Done (Tabled (most * most_events) array) all p₀
  table-all l = filling_all _ _ _ _ _ _ _ h.filling l

  module _ (l : p < n) where
    pub table-room : n ≤ most → (w : ℕ) → w ≡ most_events → take w (drop (p * most_events) array) ≡ replicate most_events 0
    table-room b w e =
        let in_room : p * most_events + most_events ≤ most * most_events = omega arith in
        part-zeros (most * most_events) most_events array _ (p * most_events) w h.filling.stored.stored (h.filling.stored.long ∙ rw h.filling.count) e in_room

    pub table-stop : (x q : ℕ) → r p s p₀ ≡ stop x q → all ≡ stop x q
    table-stop x q g = filling_stop _ _ _ _ _ _ _ h.filling l x q (λ rs c _. rw c g)

    module _ (last : List ℕ) (q : ℕ) (d : Done (Padded most_events last) (r p s p₀) q) where
      pub table-next : n ≤ most → (w : ℕ) → w ≡ most_events → Table most r all s n array₀ (put_mid (p * most_events) w array last) q (p + 1)
      table-next b w e =
          let in_room : p * most_events + most_events ≤ most * most_events = omega arith in
          let lp : length last ≡ most_events = ap length d.stored.stored ∙ length-pad most_events d.what d.stored.long in
          let size : length (put_mid (p * most_events) w array last) ≡ length array =
          simp (length-append, length-take, length-drop) (omega (arith, h.room)) in
          record {
            filling = filling_next _ _ _ _ _ _ _ h.filling l d.what q (λ rs c _. rw c d.is) (Tabled (most * most_events) (put_mid (p * most_events) w array last))
                (λ rs c t. list_stored (most * most_events) array rs (p * most_events) w t (rw c) e in_room last d.what d.stored);
            room = size ∙ h.room;
            kept = size ∙ h.kept;
          }

-- the threads' orders
abbrev pub Orders : (s : List ℕ) (at n k : ℕ) (array₀ array : List ℕ) (place p : ℕ) → Type 0
Orders s at n k array₀ array place p = Table most_threads (λ _. order k) (times n (order k) s at) s n array₀ array place p

pub orders-begun : (s : List ℕ) (at n k : ℕ) (array₀ : List ℕ) → array₀ ≡ replicate (most_threads * most_events) 0 → Orders s at n k array₀ array₀ at 0
unfolding times
orders-begun s at n k array₀ z = table-begun most_threads (λ _. order k) s at n array₀ z

module _ (s : List ℕ) (at n k : ℕ) (array₀ : List ℕ) (z : array₀ ≡ replicate (most_threads * most_events) 0) (b : (1 ≤ n) × (n ≤ most_threads)) where
  pub first-stop : (x q : ℕ) → order k s at ≡ stop x q → times n (order k) s at ≡ stop x q
  first-stop x q g = table-stop _ _ _ _ _ _ _ _ 0 (orders-begun s at n k array₀ z) b.0 x q g

  pub first-read : (last : List ℕ) (q w : ℕ) → Done (Padded most_events last) (order k s at) q → w ≡ most_events → Orders s at n k (put_mid 0 w array₀ last) (put_mid 0 w array₀ last) q 1
  first-read last q w d e =
      let t = table-next _ _ _ _ _ _ _ _ 0 (orders-begun s at n k array₀ z) b.0 last q d b.1 w e in
      record { filling = t.filling; room = t.room; kept = refl }

-- the addresses' write orders
abbrev pub Writes : (s : List ℕ) (at m k : ℕ) (ks ts array₀ array : List ℕ) (place x : ℕ) → Type 0
Writes s at m k ks ts array₀ array place x =
    Table most_addresses (λ x. write_order k (store_at ks ts x)) (turns m (next_write_order k (store_at ks ts)) [] s at) s m array₀ array place x
