-- A loop that stores one list a turn, each into its own part of an array that holds zeros.
-- Assumes nothing.
use Prim.Native.Nat.{ℕ, zero, suc, ◌+◌, ◌-◌, ◌*◌, ◌≤◌, ◌<◌}
use mathlib.Core.Path.{◌≡◌, refl, ap, ◌∙◌}
use mathlib.Core.List.{List, ◌++◌}
use native.Mathlib.Nat.{le_antisymm}
use native.Mathlib.Omega.{arith}
use lib.ListN.{length, take, drop, replicate, length-append, length-take, length-drop, length-replicate}
use borrow.Rule.Slice.PartMut.{put_mid}
use Rattle.finite.specs.Lists.{table}
use Rattle.model.specs.Limits.{most_events}
use Rattle.case.specs.Held.{pad, rows_of}
use Rattle.finite.proofs.Lists.{table_more}
use Rattle.case.proofs.Pad.{length-pad, padded, part-zeros, part-stored, rows_of-snoc}

rows-length : (g : ℕ → List ℕ) → ((y : ℕ) → length (g y) ≤ most_events) → (i j : ℕ) → length (rows_of most_events (table i j g)) ≡ j * most_events
unfolding table rows_of
rows-length g small i zero = refl
rows-length g small i (suc j) =
    simp length-append (omega (arith, length-pad most_events (g i) (small i), rows-length g small (suc i) j))

-- of n lists, y are stored
pub record Tabling (g : ℕ → List ℕ) (n most : ℕ) (out : List ℕ) (y : ℕ) : Type 0 where
  pub some : y ≤ n
  pub room : n ≤ most
  pub small : (x : ℕ) → length (g x) ≤ most_events
  pub long : length out ≡ most * most_events
  pub is : out ≡ pad (most * most_events) (rows_of most_events (table 0 y g))

module _ (g : ℕ → List ℕ) (n most : ℕ) where
  pub table-begun : n ≤ most → ((x : ℕ) → length (g x) ≤ most_events) → Tabling g n most (replicate (most * most_events) 0) 0
  unfolding table rows_of pad
  table-begun h s =
      let z : most * most_events - 0 ≡ most * most_events = omega arith in
      record { some = omega arith; room = h; small = s; long = length-replicate (most * most_events) 0; is = rw z }

  module _ (out : List ℕ) (y : ℕ) (t : Tabling g n most out y) where
    pub table-all : n ≤ y → out ≡ pad (most * most_events) (rows_of most_events (table 0 n g))
    table-all l = let e : y ≡ n = le_antisymm t.some l in rw (← e) t.is

    front_length : length (rows_of most_events (table 0 y g)) ≡ y * most_events
    front_length = rows-length g t.small 0 y

    module _ (w : ℕ) (l : y < n) (e : w ≡ most_events) where
      in_room : y * most_events + most_events ≤ most * most_events
      in_room = omega (arith, t.room)

      -- with a list at the front of its next part the table has that list too
      pub table-next : (last row : List ℕ) (j : ℕ) → row ≡ g y → length row ≡ j → last ≡ row ++ drop j (take w (drop (y * most_events) out))
          → Tabling g n most (put_mid (y * most_events) w out last) (y + 1)
      table-next last row j er ej h =
          let stored : last ≡ pad most_events row =
          h ∙ rw (part-zeros _ most_events out _ (y * most_events) w t.is front_length e in_room) (padded most_events j row ej) in
          let lp : length last ≡ most_events = ap length stored ∙ length-pad most_events row (rw er (t.small y)) in
          let whole : rows_of most_events (table 0 (y + 1) g) ≡ rows_of most_events (table 0 y g) ++ last =
          rw (table_more, stored, er) (rows_of-snoc most_events (table 0 y g) (g y)) in
          record {
            some = omega arith;
            room = t.room;
            small = t.small;
            long = simp (length-append, length-take, length-drop) (omega (arith, t.long, lp));
            is = part-stored _ most_events out _ (y * most_events) w t.is front_length e in_room last lp ∙ rw whole;
          }
