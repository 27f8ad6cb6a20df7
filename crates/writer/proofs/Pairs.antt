-- A loop over the events of a row that are below k, each put as a pair with a.
-- Assumes nothing.
use Prim.Native.Nat.{ℕ, zero, suc, ◌+◌, ◌*◌, ◌≤◌, ◌<◌}
use native.Mathlib.Nat.{le_of_suc-le-suc, eq-or-lt_of_le}
use native.Mathlib.Omega.{arith}
use mathlib.Core.Path.{◌≡◌, sym, ap, ap₂, ◌∙◌}
use mathlib.Core.Logic.{⊎_elim}
use mathlib.Core.Bool.{Bool, true, false, not, ◌&&◌, true≢false}
use mathlib.Core.List.{List, [], ◌++◌, append-nil}
use lib.Dec.{eqb, ltb}
use borrow.Author.Tests.{ltb-true, lt-ltb, eq-eqb, ne_eqb}
use Rattle.finite.proofs.Tests.{and_l, and_r, and-true}
use Rattle.number.proofs.Encoding.{lt_or_ge}
use Rattle.number.specs.Number.{encode}
use Rattle.bits.specs.Bit.{bit}
use Rattle.bits.specs.Members.{Taken}
use Rattle.writer.specs.Stages.{run, bit_bytes}
use Rattle.writer.specs.Sinks.{SinkLaws}
use Rattle.writer.proofs.Runs.{stands, lacks}
use Rattle.writer.proofs.Taken.{none_taken, may_next, one_taken, took_past, all_taken, may_same, took_same}

run_past : (h : ℕ → List ℕ) (i j : ℕ) → i ≤ j → ((e : ℕ) → i ≤ e → e < j → h e ≡ []) → run h j ≡ run h i
unfolding run
run_past h i zero l z = let e : i ≡ 0 = omega arith in rw e
run_past h i (suc j) l z =
    ⊎_elim (λ e. rw e) (λ b. let w : i ≤ j = le_of_suc-le-suc b in
    ap₂ (λ (x y : List ℕ). x ++ y) (run_past h i j w (λ e m k. z e m (omega arith))) (z j w (omega arith)) ∙ append-nil (run h i)) (eq-or-lt_of_le l)

-- the pairs of the events below `next` were taken; those from there on are left
pub record Paired {S : Type 0} (took : S → ℕ → List ℕ → S → Type 0) (row a k most rest : ℕ) (s t : S) : Type 0 where
  pub next : ℕ
  pub within : next ≤ k
  pub left : (e : ℕ) → next ≤ e → e < k → bit rest e ≡ bit row e
  pub ahead : (e : ℕ) → bit rest e ≡ true → (next ≤ e) × (e < k)
  pub sent : took s (next * most) (run (bit_bytes row a) next) t

module _ {S : Type 0} {may : S → ℕ → List ℕ → Type 0} {took : S → ℕ → List ℕ → S → Type 0} (laws : SinkLaws may took) where
  pub paired_none : {row row' a k most rest all : ℕ} {s : S} → rest ≡ all → ((e : ℕ) → bit all e ≡ (bit row' e && ltb e k)) → row' ≡ row
      → Paired took row a k most rest s s
  paired_none {row} {row'} {a} {k} {most} {rest} {all} g h q = record {
    next = 0;
    within = omega arith;
    left = λ e w l. is e ∙ ap (λ (t : Bool). bit row e && t) (lt-ltb e k l) ∙ and-true (bit row e);
    ahead = λ e t. (omega arith, ltb-true e k (and_r (bit row e) (ltb e k) (sym (is e) ∙ t)));
    sent = none_taken laws (bit_bytes row a) most;
  }
    where
      is : (e : ℕ) → bit rest e ≡ (bit row e && ltb e k)
      is e = ap (λ (s : ℕ). bit s e) g ∙ h e ∙ ap (λ (s : ℕ). bit s e && ltb e k) q

  module _ {row a k most rest : ℕ} {s t : S} (room : ℕ) (r : k ≤ room) (m : may s (room * most) (run (bit_bytes row a) k)) (v : Paired took row a k most rest s t) where
    -- nothing stands where no event of the rest does
    empty : (j : ℕ) → j ≤ k → ((e : ℕ) → e < j → bit rest e ≡ false) → (e : ℕ) → v.next ≤ e → e < j → bit_bytes row a e ≡ []
    unfolding bit_bytes
    empty j n z e w l = lacks (encode a ++ encode e) (sym (v.left e w (omega arith)) ∙ z e l)

    passed : (j : ℕ) → v.next ≤ j → j ≤ k → ((e : ℕ) → e < j → bit rest e ≡ false) → took s (j * most) (run (bit_bytes row a) j) t
    passed j w n z = took_past laws (bit_bytes row a) most room r m v.sent w n (run_past (bit_bytes row a) v.next j w (empty j n z))

    module _ {b after : ℕ} (x : Taken rest b after) where
      pub pair_below : b < k
      pair_below = (v.ahead b x.member).1

      from : v.next ≤ b
      from = (v.ahead b x.member).0

      is_pair : bit_bytes row a b ≡ encode a ++ encode b
      unfolding bit_bytes
      is_pair = stands (encode a ++ encode b) (sym (v.left b from pair_below) ∙ x.member)

      before : took s (b * most) (run (bit_bytes row a) b) t
      before = passed b from (omega (arith, pair_below)) x.least

      pub pair_may : may t most (encode a ++ encode b)
      pair_may = may_same laws is_pair (may_next laws (bit_bytes row a) most room r m before pair_below)

      pub pair_taken : {u : S} → took t most (encode a ++ encode b) u → Paired took row a k most after s u
      pair_taken g = record {
        next = b + 1;
        within = omega (arith, pair_below);
        left = λ e w l. x.left e ∙ still e (omega arith) ∙ v.left e (omega (arith, from)) l;
        ahead = λ e y.
            let z : (bit rest e && not (eqb e b)) ≡ true = sym (x.left e) ∙ y in
            (above e z, (v.ahead e (and_l (bit rest e) (not (eqb e b)) z)).1);
        sent = one_taken laws (bit_bytes row a) most room r m before pair_below (took_same laws is_pair g);
      }
        where
          still : (e : ℕ) → b < e → (bit rest e && not (eqb e b)) ≡ bit rest e
          still e l = ap (λ (t : Bool). bit rest e && not t) (ne_eqb e b (λ q. omega arith)) ∙ and-true (bit rest e)

          above : (e : ℕ) → (bit rest e && not (eqb e b)) ≡ true → b + 1 ≤ e
          above e z =
              ⊎_elim (λ l. absurd (true≢false (sym (and_l (bit rest e) (not (eqb e b)) z) ∙ x.least e l)))
              (λ l. ⊎_elim (λ q. absurd (true≢false (sym (and_r (bit rest e) (not (eqb e b)) z) ∙ ap not (eq-eqb e b (sym q))))) (λ w. omega arith) (eq-or-lt_of_le l)) (lt_or_ge e b)

  pub paired_all : {row a k most rest : ℕ} {s t : S} (room : ℕ) → k ≤ room → may s (room * most) (run (bit_bytes row a) k) → Paired took row a k most rest s t
      → ((e : ℕ) → bit rest e ≡ false) → took s (room * most) (run (bit_bytes row a) k) t
  paired_all {k = k} room r m v z = all_taken laws _ _ room r m (passed room r m v k v.within (omega arith) (λ e l. z e)) (omega arith) (omega arith)
