-- Loops over the events of a set that are below k, as
--     for a in bits::members_below(set, k) { .. }
-- Such a loop's invariant is one of the two records below, at `l.a-iterator`, which is the set of the events that are left. The first
-- law of a record answers `loop-a-init`, from `c.into_iter-a-iterator.ensures.into_iter_gives` and `c.members_below-a-items.ensures`. `event_below` and `event_of` say, from
-- `c.loop-a.invariant.within` and `c.in-Some.ensures.steps`, that the event at hand is below k and in the set. The law that ends in
-- `next` answers `loop-a-preserved`, from `c.loop-a.invariant` and `c.in-Some.ensures.steps`, and the one that ends in `end` answers
-- `returns`, from `c.loop-a.invariant` and `c.in-None.ensures.steps`. There is no measure: a set ends.
-- Assumes nothing.
use Prim.Native.Nat.{ℕ, ◌<◌}
use mathlib.Core.Path.{◌≡◌, refl, sym, ap, ap₂, ◌∙◌}
use mathlib.Core.Bool.{Bool, true, false, not, ◌&&◌, ◌||◌, true≢false}
use lib.Dec.{eqb, ltb}
use lib.Bits.{bit_or}
use borrow.Author.Tests.{eqb-true, eq-eqb, ltb-true, lt-ltb, not-true}
use Rattle.finite.specs.Tests.{all, some}
use Rattle.finite.proofs.Tests.{iff, and_l, and_r, and_i, or_l, or_r, or_e, is_false, all_make, all-not, some_make, some_out, some-none, some_same, and-true, and-false}
use Rattle.bits.specs.Bit.{bit}
use Rattle.bits.specs.Members.{Taken}
use Rattle.bits.proofs.Bits.{bit-zero, bit-or}
use Rattle.rows.specs.Sets.{Set}

begun : (k set : ℕ) {rest all : ℕ} → rest ≡ all → ((i : ℕ) → bit all i ≡ (bit set i && ltb i k)) → (i : ℕ) → bit rest i ≡ (bit set i && ltb i k)
begun k set g h i = ap (λ (s : ℕ). bit s i) g ∙ h i

-- what is left is of the set and below k
pub record Within (k set rest : ℕ) : Type 0 where
  pub each : (i : ℕ) → bit rest i ≡ true → (i < k) × (bit set i ≡ true)

module _ {k set rest : ℕ} where
  at_first : ((i : ℕ) → bit rest i ≡ (bit set i && ltb i k)) → Within k set rest
  at_first h = record {
    each = λ i t.
        let u : (bit set i && ltb i k) ≡ true = sym (h i) ∙ t in
        (ltb-true i k (and_r (bit set i) (ltb i k) u), and_l (bit set i) (ltb i k) u);
  }

  module _ {i next : ℕ} (w : Within k set rest) (t : Taken rest i next) where
    pub event_below : i < k
    event_below = (w.each i t.member).0

    pub event_of : bit set i ≡ true
    event_of = (w.each i t.member).1

    later : Within k set next
    later = record { each = λ j u. w.each j (and_l (bit rest j) (not (eqb j i)) (sym (t.left j) ∙ u)) }

-- ---- a loop that tests each event: those that are not left pass
pub record Passed (k set : ℕ) (p : ℕ → Bool) (rest : ℕ) : Type 0 where
  pub within : Within k set rest
  pub past : (i : ℕ) → i < k → bit rest i ≡ false → p i ≡ true

module _ {k set : ℕ} {p : ℕ → Bool} {rest : ℕ} where
  -- events that are not in the set pass
  pub pass_first : {all : ℕ} → rest ≡ all → ((i : ℕ) → bit all i ≡ (bit set i && ltb i k)) → ((i : ℕ) → bit set i ≡ false → p i ≡ true) → Passed k set p rest
  pass_first g h f = record {
    within = at_first (begun k set g h);
    past = λ i l t. f i (is_false (λ u. true≢false (sym (begun k set g h i ∙ and_i (bit set i) (ltb i k) u (lt-ltb i k l)) ∙ t)));
  }

  module _ {i next : ℕ} {x : Bool} (v : Passed k set p rest) (t : Taken rest i next) (e : x ≡ p i) where
    pub pass_next : x ≡ true → Passed k set p next
    pass_next s = record {
      within = later v.within t;
      past = λ j l u. by j l (eqb j i) refl u;
    }
      where
        by : (j : ℕ) → j < k → (q : Bool) → eqb j i ≡ q → bit next j ≡ false → p j ≡ true
        by j l true q u = ap p (eqb-true j i q) ∙ sym e ∙ s
        by j l false q u = v.past j l (sym (and-true (bit rest j)) ∙ ap (λ b. bit rest j && not b) (sym q) ∙ sym (t.left j) ∙ u)

    -- an event that doesn't pass ends the loop
    pub pass_fails : x ≡ false → false ≡ all k p
    pass_fails s = sym (all-not k p i (event_below v.within t) (sym e ∙ s))

  pub pass_end : Passed k set p rest → ((e : ℕ) → bit rest e ≡ false) → true ≡ all k p
  pass_end v z = sym (all_make k p (λ i l. v.past i l (z i)))

-- ---- a loop that unites what each event gives: that of those that are not left is united
pub record Collected (k set : ℕ) (f : ℕ → ℕ → Bool) (rest found : ℕ) : Type 0 where
  pub within : Within k set rest
  pub collect : (e : ℕ) → bit found e ≡ some k (λ j. not (bit rest j) && f j e)

module _ {k set : ℕ} {f : ℕ → ℕ → Bool} {rest : ℕ} where
  -- events that are not in the set give nothing
  pub collect_first : {all : ℕ} → rest ≡ all → ((i : ℕ) → bit all i ≡ (bit set i && ltb i k)) → ((j e : ℕ) → bit set j ≡ false → f j e ≡ false) → Collected k set f rest 0
  collect_first same h g = record {
    within = at_first (begun k set same h);
    collect = λ e. bit-zero e ∙ sym (some-none k (λ j. not (bit rest j) && f j e) (λ j l. none j e l (bit set j) refl));
  }
    where
      none : (j e : ℕ) → j < k → (b : Bool) → bit set j ≡ b → (not (bit rest j) && f j e) ≡ false
      none j e l true t = ap (λ b. not b && f j e) (begun k set same h j ∙ ap₂ (λ a b. a && b) t (lt-ltb j k l))
      none j e l false t = ap (λ b. not (bit rest j) && b) (g j e t) ∙ and-false (not (bit rest j))

  module _ {found : ℕ} (v : Collected k set f rest found) where
    pub collect_next : {i next part : ℕ} → Taken rest i next → Set part (f i) → Collected k set f next (bit_or found part)
    collect_next {i} {next} {part} t s = record {
      within = later v.within t;
      collect = λ e. bit-or found part e ∙ ap₂ (λ a b. a || b) (v.collect e) (s.has e) ∙ iff (onward e) (back e);
    }
      where
        gone : bit next i ≡ false
        gone = t.left i ∙ ap (λ b. bit rest i && not b) (eq-eqb i i refl) ∙ and-false (bit rest i)

        onward : (e : ℕ) → (some k (λ j. not (bit rest j) && f j e) || f i e) ≡ true → some k (λ j. not (bit next j) && f j e) ≡ true
        onward e y = or_e (some k (λ j. not (bit rest j) && f j e)) (f i e)
            (λ u. some_out k (λ j. not (bit rest j) && f j e) u (λ j l w.
            some_make k (λ j. not (bit next j) && f j e) j l
            (and_i (not (bit next j)) (f j e)
            (ap not (t.left j ∙ ap (λ b. b && not (eqb j i)) (not-true (bit rest j) (and_l (not (bit rest j)) (f j e) w)))) (and_r (not (bit rest j)) (f j e) w))))
            (λ u. some_make k (λ j. not (bit next j) && f j e) i (event_below v.within t) (and_i (not (bit next i)) (f i e) (ap not gone) u)) y

        back : (e : ℕ) → some k (λ j. not (bit next j) && f j e) ≡ true → (some k (λ j. not (bit rest j) && f j e) || f i e) ≡ true
        back e y = some_out k (λ j. not (bit next j) && f j e) y (λ j l w. by j l w (eqb j i) refl)
          where
            by : (j : ℕ) → j < k → (not (bit next j) && f j e) ≡ true → (q : Bool) → eqb j i ≡ q → (some k (λ j. not (bit rest j) && f j e) || f i e) ≡ true
            by j l w true q = or_r (some k (λ j. not (bit rest j) && f j e)) (f i e) (ap (λ (m : ℕ). f m e) (sym (eqb-true j i q)) ∙ and_r (not (bit next j)) (f j e) w)
            by j l w false q =
                or_l (some k (λ j. not (bit rest j) && f j e)) (f i e)
                (some_make k (λ j. not (bit rest j) && f j e) j l
                (and_i (not (bit rest j)) (f j e)
                (ap not (sym (and-true (bit rest j)) ∙ ap (λ b. bit rest j && not b) (sym q) ∙ sym (t.left j)) ∙ and_l (not (bit next j)) (f j e) w)
                (and_r (not (bit next j)) (f j e) w)))

    pub collect_end : ((e : ℕ) → bit rest e ≡ false) → Set found (λ e. some k (λ j. f j e))
    collect_end z = record {
      has = λ e. v.collect e ∙ some_same k (λ j. not (bit rest j) && f j e) (λ j. f j e) (λ j l. ap (λ b. not b && f j e) (z j));
    }
