-- Linear orders: taken from the end on, each event has exactly those after it that were taken before.
-- Assumes nothing.
use Prim.Native.Nat.{ℕ, ◌+◌, ◌-◌, ◌^◌, ◌≤◌, ◌<◌}
use native.Mathlib.Omega.{arith}
use native.Mathlib.Decide.{ℕ_discrete}
use mathlib.Core.Path.{◌≡◌, refl, sym, ap, ◌∙◌, subst}
use mathlib.Core.Bool.{Bool, true, false, not, ◌&&◌, ◌||◌, true≢false}
use mathlib.Core.List.{List}
use lib.Bits.{bit_and, bit_or}
use lib.Dec.{eqb}
use lib.ListN.{length, get_or, set, replicate, length-set, length-replicate, get_or-replicate}
use lib.Seq.{get_or-set_same, get_or-set_other}
use borrow.Author.Tests.{eqb-true, lt-ltb, not-true}
use Rattle.finite.specs.Tests.{all, some, count}
use Rattle.finite.proofs.Tests.{and_l, and_r, and_i, and-true, or_l, or_e, imp_i, imp_no, is_false, all_make, some_make, count-le}
use Rattle.bits.specs.Bit.{bit}
use Rattle.model.specs.Limits.{most_events}
use Rattle.rows.specs.Sets.{Set, row_in, order_in}
use Rattle.rows.proofs.SetLaws.{as_set, masked, set_below, set_with}
use Rattle.orders.specs.Parts.{closed}
use Rattle.one_order.specs.FinalParts.{Named, FinalPart}

-- ---- the loop that names an event for each size
pub record Naming (k a : ℕ) (sizes : List ℕ) : Type 0 where
  pub within : a ≤ k
  pub room : length sizes ≡ most_events + 1
  pub named : Named sizes

pub unnamed : (k : ℕ) → Naming k 0 (replicate (most_events + 1) 0)
unnamed k = record {
  within = omega arith;
  room = length-replicate {A = ℕ} (most_events + 1) 0;
  named = record { event = λ i l. let z = get_or-replicate {A = ℕ} (most_events + 1) i 0 0 (omega arith) in omega (arith, z) };
}

pub size_fits : (k row : ℕ) {size : ℕ} → k ≤ most_events → size ≡ count k (bit row) → size < most_events + 1
size_fits k row m e = omega (arith, count-le k (bit row), e)

pub names : {k a size : ℕ} {sizes : List ℕ} → Naming k a sizes → a < k → k ≤ most_events → size < most_events + 1 → Naming k (a + 1) (set sizes size a)
names {k} {a} {size} {sizes} h l m ls = record {
  within = omega arith;
  room = length-set sizes size a ∙ h.room;
  named = record { event = λ i li. at i li (ℕ_discrete i size) };
}
  where
    at : (i : ℕ) → i ≤ most_events → Dec (i ≡ size) → get_or (set sizes size a) i 0 < most_events
    at i li (yes e) = rw e (rw (get_or-set_same sizes size a 0 (omega (arith, h.room))) (omega arith))
    at i li (no d) = rw (get_or-set_other sizes size i a 0 d) (h.named.event i li)

-- ---- events that have none after them
module _ (k : ℕ) (before : ℕ → ℕ → Bool) where
  bare-closed : (a : ℕ) → a < k → ((d : ℕ) → d < k → before a d ≡ false) → closed k before before a ≡ true
  bare-closed a la h =
      and_i (not (before a a)) _ (ap not (h a la)) (all_make k _ (λ b lb. imp_no (before a b) _ (h b lb)))

  none_after : (events : ℕ) {next : ℕ} {x : Bool} → Set next (λ e. some k (λ b. bit events b && before b e)) → x ≡ some k (bit next) → not x ≡ true
      → (a : ℕ) → a < k → bit events a ≡ true → (d : ℕ) → d < k → before a d ≡ false
  none_after events {next} {x} s e n a la t d ld = is_false (λ u. true≢false
      (sym (e ∙ some_make k (bit next) d ld (s.has d ∙ some_make k (λ b. bit events b && before b d) a la (and_i (bit events a) (before a d) t u))) ∙ not-true x n))

  -- the last event, after b
  pub part-last : (last : ℕ) {next r : ℕ} {x : Bool} → Set next (λ e. some k (λ b. bit last b && before b e)) → x ≡ some k (bit next)
      → Set r (λ e. not x && bit last e) → FinalPart k before r
  part-last last {next} {r} {x} s e t = record {
    onward = λ a b la lb u v. absurd (true≢false (sym v ∙ bare a la u b lb));
    obeys = λ a la u. bare-closed a la (bare a la u);
  }
    where
      bare : (a : ℕ) → a < k → bit r a ≡ true → (d : ℕ) → d < k → before a d ≡ false
      bare a la u = none_after last s e (and_l (not x) (bit last a) (sym (t.has a) ∙ u)) a la (and_r (not x) (bit last a) (sym (t.has a) ∙ u))

  -- the next event: those after it are the part
  pub part-next : (a : ℕ) {part next : ℕ} → FinalPart k before part → ((e : ℕ) → e < k → before a e ≡ bit part e) → next ≡ bit_or part (2 ^ a) → FinalPart k before next
  part-next a {part} {next} h same en = record {
    onward = λ x b lx lb u v. more b (or_e (bit part x) (eqb x a) (λ w. h.onward x b lx lb w v)
        (λ q. sym (same b lb) ∙ ap (λ (y : ℕ). before y b) (sym (eqb-true x a q)) ∙ v) (sym (has x) ∙ u));
    obeys = λ x lx u. or_e (bit part x) (eqb x a) (h.obeys x lx)
        (λ q. subst (λ (y : ℕ). closed k before before y ≡ true) (sym (eqb-true x a q)) (here (subst (λ (y : ℕ). y < k) (eqb-true x a q) lx))) (sym (has x) ∙ u);
  }
    where
      has : (e : ℕ) → bit next e ≡ (bit part e || eqb e a)
      has e = (set_with a en (as_set {x = part} refl)).has e

      more : (b : ℕ) → bit part b ≡ true → bit next b ≡ true
      more b t = has b ∙ or_l (bit part b) (eqb b a) t

      irreflexive : a < k → before a a ≡ false
      irreflexive la = is_false (λ t. true≢false (sym t ∙ not-true (before a a) (and_l (not (before a a)) _ (h.obeys a la (sym (same a la) ∙ t)))))

      here : a < k → closed k before before a ≡ true
      here la =
          and_i (not (before a a)) _ (ap not (irreflexive la))
          (all_make k _ (λ b lb. imp_i (before a b) _ (λ ab. all_make k _ (λ d ld. imp_i (before b d) _
          (λ bd. same d ld ∙ h.onward b d lb ld (sym (same b lb) ∙ ab) bd)))))

  -- the events outside of the part have none after them
  pub part-all : {part events others next : ℕ} {x : Bool} → FinalPart k before part → events ≡ 2 ^ k - 1 → Set others (λ e. bit events e && not (bit part e))
      → Set next (λ e. some k (λ b. bit others b && before b e)) → x ≡ some k (bit next) → not x ≡ true → all k (closed k before before) ≡ true
  part-all {part} {events} {others} h ee so sn ex n = all_make k (closed k before before) (λ a la. by a la (bit part a) refl)
    where
      by : (a : ℕ) → a < k → (t : Bool) → bit part a ≡ t → closed k before before a ≡ true
      by a la true t = h.obeys a la t
      by a la false t =
          bare-closed a la (none_after others sn ex n a la
          (so.has a ∙ and_i (bit events a) (not (bit part a)) ((set_below k ee).has a ∙ lt-ltb a k la) (ap not t)))

-- the events below k that follow a are the part
pub follow_part : (rows : List ℕ) (k p a : ℕ) {row events both part : ℕ} → row ≡ row_in rows p a → events ≡ 2 ^ k - 1 → both ≡ bit_and row events → both ≡ part
    → (e : ℕ) → e < k → order_in rows p a e ≡ bit part e
follow_part rows k p a {row} er ee eb same e l =
    ap (λ (x : ℕ). bit x e) (sym er) ∙ sym (and-true (bit row e)) ∙ ap (λ t. bit row e && t) (sym (lt-ltb e k l)) ∙ sym ((masked k row eb ee).has e)
    ∙ ap (λ (x : ℕ). bit x e) same
