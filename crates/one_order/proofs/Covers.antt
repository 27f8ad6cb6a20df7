-- Rule 11 of one order by the lowest events of its rows: where every row is covered, every row is closed.
-- Assumes nothing.
use Prim.Native.Nat.{ℕ, zero, suc, ◌+◌, ◌-◌, ◌^◌, ◌≤◌, ◌<◌}
use native.Mathlib.Omega.{arith}
use native.Mathlib.Decide.{ℕ_discrete}
use mathlib.Core.Path.{◌≡◌, refl, sym, ap, ap₂, ◌∙◌, subst}
use mathlib.Core.Bool.{Bool, true, false, not, ◌&&◌, ◌||◌, true≢false}
use mathlib.Core.List.{List}
use lib.Bits.{bit_and}
use lib.Dec.{eqb, ltb}
use borrow.Author.Tests.{eqb-true, eq-eqb, ltb-true, lt-ltb, not-true, not-false}
use Rattle.finite.specs.Tests.{all, count, ◌⇒◌}
use Rattle.finite.proofs.Tests.{and_l, and_r, and_i, or_l, or_r, or_e, imp_e, imp_i, is_false, all_get, all_make, all_same, all-not, count_less}
use Rattle.bits.specs.Bit.{bit, width}
use Rattle.bits.specs.Members.{Taken}
use Rattle.model.specs.Limits.{most_events}
use Rattle.rows.specs.Sets.{Set, row_in, order_in}
use Rattle.rows.proofs.SetLaws.{set_same, set_below, masked}
use Rattle.orders.specs.Parts.{closed}
use Rattle.orders.proofs.Laws.{closed_no}
use Rattle.one_order.specs.Covers.{Cover, Covered, Tested}
use Rattle.one_order.proofs.Disjoint.{apart_others}

-- ---- a covered row is closed, by induction on its size: what follows a through b has the smaller row of b
module _ (k : ℕ) (before : ℕ → ℕ → Bool) (h : (a : ℕ) → a < k → Covered k before a) where
  transitive : (size a : ℕ) → a < k → count k (before a) < size
      → (b d : ℕ) → b < k → d < k → before a b ≡ true → before b d ≡ true → before a d ≡ true
  transitive zero a la l b d lb ld ab bd = absurd (omega arith)
  transitive (suc size) a la l b d lb ld ab bd =
      let c = (h a la).cover b lb ab in
      let m = c.through in
      let less : count k (before m) < count k (before a) = count_less k (before m) (before a) c.onward m c.inside c.follows (h m c.inside).irreflexive in
      or_e (eqb b m) (before m b)
      (λ e. c.onward d ld (ap (λ (x : ℕ). before x d) (sym (eqb-true b m e)) ∙ bd))
      (λ f. c.onward d ld (transitive size m c.inside (omega arith) b d lb ld f bd))
      c.reaches

  covered_closed : (a : ℕ) → a < k → closed k before before a ≡ true
  covered_closed a la =
      and_i (not (before a a)) _ (ap not (h a la).irreflexive)
      (all_make k _ (λ b lb. imp_i (before a b) _ (λ ab. all_make k _ (λ d ld. imp_i (before b d) _
      (λ bd. transitive (suc (count k (before a))) a la (omega arith) b d lb ld ab bd)))))

  pub covered_all : true ≡ all k (closed k before before)
  covered_all = sym (all_make k (closed k before before) covered_closed)

-- ---- a loop over an order's rows: those below i are covered
pub record CoveredTo (k : ℕ) (before : ℕ → ℕ → Bool) (i : ℕ) : Type 0 where
  pub within : i ≤ k
  pub rows : (a : ℕ) → a < i → Covered k before a

module _ {k : ℕ} {before : ℕ → ℕ → Bool} where
  pub rows-begun : CoveredTo k before 0
  rows-begun = record { within = omega arith; rows = λ a l. absurd (omega arith) }

  module _ {i : ℕ} (h : CoveredTo k before i) where
    pub rows_fail : {x : Bool} → i < k → Tested k before i x → not x ≡ true → false ≡ all k (closed k before before)
    rows_fail {x} l t n = sym (all-not k (closed k before before) i l (t.fails (not-true x n)))

    pub rows_next : {x : Bool} → i < k → Tested k before i x → not x ≡ false → CoveredTo k before (i + 1)
    rows_next {x} l t n = record { within = omega arith; rows = λ a la. at a la (ℕ_discrete a i) }
      where
        at : (a : ℕ) → a < i + 1 → Dec (a ≡ i) → Covered k before a
        at a la (yes e) = subst (λ (m : ℕ). Covered k before m) (sym e) (t.holds (not-false x n))
        at a la (no d) = h.rows a (omega arith)

    pub rows_end : k ≤ i → true ≡ all k (closed k before before)
    rows_end g = covered_all k before (λ a l. h.rows a (omega arith))

-- ---- a row that is not closed
tested_no : (k : ℕ) (before : ℕ → ℕ → Bool) (a : ℕ) → closed k before before a ≡ false → Tested k before a false
tested_no k before a h = record { holds = λ e. absurd (true≢false (sym e)); fails = λ _. h }

not-closed : (k : ℕ) (before : ℕ → ℕ → Bool) (a b : ℕ) → b < k → before a b ≡ true → all k (λ d. before b d ⇒ before a d) ≡ false → closed k before before a ≡ false
not-closed k before a b lb ab f = is_false (λ t.
    true≢false (sym (imp_e (before a b) _ (all_get k _ (and_r (not (before a a)) _ t) b lb) ab) ∙ f))

-- ---- a loop over a's row in thread p's order: what is not left is covered. others: the events that do not follow a
pub record Covering (rows : List ℕ) (k p a mine others rest : ℕ) : Type 0 where
  pub small : k ≤ most_events
  pub row : mine ≡ row_in rows p a
  pub outside : Set others (λ e. ltb e k && not (bit mine e))
  pub irreflexive : order_in rows p a a ≡ false
  pub within : (i : ℕ) → bit rest i ≡ true → (i < k) × (order_in rows p a i ≡ true)
  pub cover : (d : ℕ) → d < k → order_in rows p a d ≡ true → bit rest d ≡ false → Cover k (order_in rows p) a d

-- a is before itself
pub cover_no : (rows : List ℕ) (k p a : ℕ) {mine : ℕ} {x : Bool} → mine ≡ row_in rows p a → x ≡ bit mine a → x ≡ true → Tested k (order_in rows p) a false
cover_no rows k p a row e t =
    tested_no k (order_in rows p) a (sym (closed_no k (order_in rows p) (order_in rows p) a (ap (λ (y : ℕ). bit y a) (sym row) ∙ sym e ∙ t)))

module _ {rows : List ℕ} {k p a mine : ℕ} where
  pub cover-none : {x : Bool} {events others left rest : ℕ} → k ≤ most_events → mine ≡ row_in rows p a → x ≡ bit mine a → x ≡ false → events ≡ 2 ^ k - 1
      → Set others (λ e. bit events e && not (bit mine e)) → left ≡ bit_and mine events → rest ≡ left → Covering rows k p a mine others rest
  cover-none {events = events} {others} {rest = rest} m row ex f ee o er same_rest =
      let s : Set rest (λ e. bit mine e && ltb e k) = masked k mine (same_rest ∙ er) ee in
      let same : (e : ℕ) → bit mine e ≡ order_in rows p a e = λ e. ap (λ (x : ℕ). bit x e) row in
      record {
        small = m;
        row = row;
        outside = set_same o (λ e. ap (λ t. t && not (bit mine e)) ((set_below k ee).has e));
        irreflexive = sym (same a) ∙ sym ex ∙ f;
        within = λ i t. (ltb-true i k (and_r (bit mine i) (ltb i k) (sym (s.has i) ∙ t)), sym (same i) ∙ and_l (bit mine i) (ltb i k) (sym (s.has i) ∙ t));
        cover = λ d l t f. absurd (true≢false (sym (s.has d ∙ and_i (bit mine d) (ltb d k) (same d ∙ t) (lt-ltb d k l)) ∙ f));
      }

  module _ {others rest : ℕ} (v : Covering rows k p a mine others rest) where
    pub cover_all : ((e : ℕ) → bit rest e ≡ false) → Tested k (order_in rows p) a true
    cover_all z = record {
      holds = λ _. record { irreflexive = v.irreflexive; cover = λ d l t. v.cover d l t (z d) };
      fails = λ e. absurd (true≢false e);
    }

    -- the least event i of the rest, without which later is left
    module _ {i later : ℕ} (taken : Taken rest i later) where
      pub cover_in : i < k
      cover_in = (v.within i taken.member).0

      -- its row behind, and whether it lies within a's
      module _ {behind : ℕ} {x : Bool} (er : behind ≡ row_in rows p i) (ex : x ≡ all width (λ j. bit behind j ⇒ not (bit others j))) where
        tests : x ≡ all k (λ d. order_in rows p i d ⇒ order_in rows p a d)
        tests =
            apart_others k v.small behind mine v.outside ex
            ∙ all_same k (λ j. bit behind j ⇒ bit mine j) (λ d. order_in rows p i d ⇒ order_in rows p a d) (λ j l. ap₂ (λ (y z : ℕ). bit y j ⇒ bit z j) er v.row)

        pub cover-fails : x ≡ false → Tested k (order_in rows p) a false
        cover-fails t = tested_no k (order_in rows p) a (not-closed k (order_in rows p) a i cover_in (v.within i taken.member).1 (sym tests ∙ t))

        -- i and its row are left out
        module _ {shown dropped left : ℕ} (es : shown ≡ later) (s : Set dropped (λ e. bit shown e && not (bit behind e))) (el : left ≡ dropped) where
          kept : (j : ℕ) → bit left j ≡ (bit later j && not (bit behind j))
          kept j = ap (λ (z : ℕ). bit z j) el ∙ s.has j ∙ ap (λ (z : ℕ). bit z j && not (bit behind j)) es

          still : (j : ℕ) → bit left j ≡ true → (bit rest j && not (eqb j i)) ≡ true
          still j t = sym (taken.left j) ∙ and_l (bit later j) (not (bit behind j)) (sym (kept j) ∙ t)

          in_rest : (j : ℕ) → bit left j ≡ true → bit rest j ≡ true
          in_rest j t = and_l (bit rest j) (not (eqb j i)) (still j t)

          gone : bit left i ≡ false
          gone = is_false (λ t. true≢false (sym (and_r (bit rest i) (not (eqb i i)) (still i t)) ∙ ap not (eq-eqb i i refl)))

          pub cover-less : count width (bit left) < count width (bit rest)
          cover-less = count_less width (bit left) (bit rest) (λ j l. in_rest j) i (omega (arith, cover_in, v.small)) taken.member gone

          pub cover-next : x ≡ true → Covering rows k p a mine others left
          cover-next t = record {
            small = v.small;
            row = v.row;
            outside = v.outside;
            irreflexive = v.irreflexive;
            within = λ j u. v.within j (in_rest j u);
            cover = λ d l u f. by d l u f (eqb d i) refl (order_in rows p i d) refl;
          }
            where
              through_i : (d : ℕ) → (eqb d i || order_in rows p i d) ≡ true → Cover k (order_in rows p) a d
              through_i d w = record {
                through = i;
                inside = cover_in;
                follows = (v.within i taken.member).1;
                reaches = w;
                onward = λ e le u. imp_e (order_in rows p i e) (order_in rows p a e) (all_get k (λ d. order_in rows p i d ⇒ order_in rows p a d) (sym tests ∙ t) e le) u;
              }

              by : (d : ℕ) → d < k → order_in rows p a d ≡ true → bit left d ≡ false → (q : Bool) → eqb d i ≡ q → (y : Bool) → order_in rows p i d ≡ y → Cover k (order_in rows p) a d
              by d l u f true q y w = through_i d (or_l (eqb d i) (order_in rows p i d) q)
              by d l u f false q true w = through_i d (or_r (eqb d i) (order_in rows p i d) w)
              by d l u f false q false w =
                  v.cover d l u (is_false (λ z. true≢false
                  (sym (kept d
                  ∙ and_i (bit later d) (not (bit behind d)) (taken.left d ∙ and_i (bit rest d) (not (eqb d i)) z (ap not q)) (ap not (ap (λ (y : ℕ). bit y d) er ∙ w))) ∙ f)))
