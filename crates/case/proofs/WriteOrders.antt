-- An address's stores and its write order: the ways through their tests, the turns of their loops, and what they mean.
-- Assumes nothing.
use Prim.Native.Nat.{ℕ, zero, suc, ◌+◌, ◌-◌, ◌*◌, ◌^◌, ◌≤◌, ◌<◌}
use native.Mathlib.Omega.{arith}
use native.Mathlib.Numerals.{add-one}
use mathlib.Core.Path.{◌≡◌, refl, sym, ap, ◌∙◌}
use mathlib.Core.Bool.{Bool, true, false, not, ◌&&◌, ◌||◌}
use mathlib.Core.List.{List, [], ◌∷◌, ◌++◌}
use lib.Dec.{eqb, ltb}
use lib.Bits.{bit_or}
use lib.ListN.{length, get_or}
use borrow.Rule.Slice.PartMut.{mid_of, mid_len}
use Rattle.std.proofs.lemmas.List.{get_or-take, get_or-drop}
use borrow.Author.Tests.{lt-ltb, le-ltb}
use Rattle.finite.specs.Tests.{count}
use Rattle.finite.specs.Lists.{table}
use Rattle.finite.proofs.Tests.{or_false, count-le}
use Rattle.finite.proofs.Lists.{table_more, table_turn, table-end}
use Rattle.bits.specs.Bit.{bit}
use Rattle.bits.proofs.Bits.{bit-zero, bit_with}
use Rattle.model.specs.Limits.{most_addresses, most_events}
use Rattle.model.specs.Rules.{or_else}
use Rattle.model.specs.Record.{member}
use Rattle.model.specs.Fault.{first_fault, write_fault, writes_fault}
use Rattle.case.specs.Stores.{store_at, writes_at}

-- ---- members
pub member-snoc : (j : ℕ) (xs : List ℕ) (v : ℕ) → member j (xs ++ (v ∷ [])) ≡ (member j xs || eqb j v)
unfolding member
member-snoc j [] v = or_false (eqb j v)
member-snoc j (y ∷ xs) v = go (eqb j y) (member-snoc j xs v)
  where
    go : (b : Bool) → member j (xs ++ (v ∷ [])) ≡ (member j xs || eqb j v) → (b || member j (xs ++ (v ∷ []))) ≡ ((b || member j xs) || eqb j v)
    go true h = refl
    go false h = h

-- ---- the fault of one write order: the entries below i passed, and listed are those
module _ (k : ℕ) (mine : ℕ → Bool) (f : ℕ → ℕ) (n : ℕ) where
  pub record Listing (listed i : ℕ) : Type 0 where
    pub within : i ≤ n
    pub marked : (e : ℕ) → bit listed e ≡ member e (table 0 i f)
    pub same : write_fault k mine (table 0 i f) (table i (n - i) f) ≡ write_fault k mine [] (table 0 n f)

  pub listing-begun : Listing 0 0
  unfolding table member
  listing-begun = record { within = omega arith; marked = λ e. bit-zero e; same = let z : n - 0 ≡ n = omega arith in rw z }

  module _ (listed i : ℕ) (L : Listing listed i) where
    pub listing_done : n ≤ i → 0 ≡ write_fault k mine [] (table 0 n f)
    unfolding write_fault
    listing_done h = sym (ap (write_fault k mine (table 0 i f)) (table-end i n f h)) ∙ L.same

    module _ (h : i < n) (e : ℕ) (ee : e ≡ f i) where
      here : or_else (ltb e k) 3 (or_else (mine e && not (bit listed e)) 4 (write_fault k mine (table 0 (i + 1) f) (table (i + 1) (n - (i + 1)) f))) ≡ write_fault k mine [] (table 0 n f)
      unfolding write_fault
      here =
          rw (ee, L.marked (f i), table_more i f)
          (ap (write_fault k mine (table 0 i f)) (sym (table_turn i n f h)) ∙ L.same)

      pub no-event : k ≤ e → 3 ≡ write_fault k mine [] (table 0 n f)
      no-event g = rw (le-ltb e k g) at here

      module _ (g : e < k) (r : Bool) (er : r ≡ (mine e && not (bit listed e))) where
        pub not-unlisted : r ≡ false → 4 ≡ write_fault k mine [] (table 0 n f)
        not-unlisted t = rw (lt-ltb e k g, ← er, t) at here

        pub one-listed : (listed' : ℕ) → listed' ≡ bit_or listed (2 ^ e) → r ≡ true → Listing listed' (i + 1)
        one-listed listed' el t = record {
          within = omega arith;
          marked = λ j. ap (λ (s : ℕ). bit s j) el ∙ bit_with listed e j ∙ ap (λ (b : Bool). b || eqb j e) (L.marked j)
              ∙ ap (λ (v : ℕ). member j (table 0 i f) || eqb j v) ee ∙ sym (member-snoc j (table 0 i f) (f i)) ∙ ap (member j) (sym (table_more i f));
          same = rw (lt-ltb e k g, ← er, t) at here;
        }

-- the write order of x has as many entries as there are stores to x
abbrev pub entry : List ℕ → ℕ → ℕ → ℕ
entry ws x i = get_or ws (x * most_events + i) 0

pub of_order : (ks as' ws : List ℕ) (k x n r : ℕ) → n ≡ count k (store_at ks as' x)
    → r ≡ write_fault k (store_at ks as' x) [] (table 0 n (entry ws x)) → r ≡ write_fault k (store_at ks as' x) [] (writes_at ks as' ws k x)
unfolding writes_at
of_order ks as' ws k x n r e h = rw e at h

-- the part of the write orders that is that of x
module _ (ws : List ℕ) (x n : ℕ) (size : length ws ≡ most_addresses * most_events) (hx : x < most_addresses) (hn : n ≤ most_events) where
  abbrev pub part : List ℕ
  part = mid_of (x * most_events) (x * most_events + n - x * most_events) ws

  pub part_fits : x * most_events + n ≤ length ws
  part_fits = omega arith

  pub part_length : length part ≡ n
  part_length = mid_len (x * most_events) (x * most_events + n) ws part_fits ∙ omega arith

  pub part_get : (i e : ℕ) → e ≡ get_or part i 0 → i < length part → e ≡ entry ws x i
  part_get i e h l = h ∙ get_or-take _ _ i 0 (omega (arith, part_length)) ∙ get_or-drop (x * most_events) ws i 0

pub few-stores : (k n : ℕ) (f : ℕ → Bool) → k ≤ most_events → n ≡ count k f → n ≤ most_events
few-stores k n f h e = omega (arith, count-le k f)

-- ---- the first fault of the write orders
pub first-fault : (x y : ℕ) → (x ≡ 0 → ⊥) → first_fault x y ≡ x
first-fault zero y h = absurd (h refl)
first-fault (suc x) y h = refl

module _ (k : ℕ) (mine : ℕ → ℕ → Bool) (g : ℕ → List ℕ) (m : ℕ) where
  pub record Faultless (x : ℕ) : Type 0 where
    pub within : x ≤ m
    pub same : writes_fault k mine x (table x (m - x) g) ≡ writes_fault k mine 0 (table 0 m g)

  pub none_yet : Faultless 0
  none_yet = record { within = omega arith; same = let z : m - 0 ≡ m = omega arith in rw z }

  module _ (x : ℕ) (F : Faultless x) where
    pub none_at_all : m ≤ x → 0 ≡ writes_fault k mine 0 (table 0 m g)
    unfolding writes_fault
    none_at_all h = sym (ap (writes_fault k mine x) (table-end x m g h)) ∙ F.same

    module _ (h : x < m) (r : ℕ) (er : r ≡ write_fault k (mine x) [] (g x)) where
      there : first_fault r (writes_fault k mine (x + 1) (table (x + 1) (m - (x + 1)) g)) ≡ writes_fault k mine 0 (table 0 m g)
      unfolding writes_fault
      there = rw (er, add-one x) (rw (add-one x) at (ap (writes_fault k mine x) (sym (table_turn x m g h)) ∙ F.same))

      pub found-one : (r ≡ 0 → ⊥) → r ≡ writes_fault k mine 0 (table 0 m g)
      found-one n = sym (first-fault r _ n) ∙ there

      pub found_none : r ≡ 0 → Faultless (x + 1)
      found_none z = record { within = omega arith; same = rw z at there }
