-- Laws of rules 11 to 14 as they are tested.
-- Assumes nothing.
use Prim.Native.Nat.{ℕ, suc, ◌+◌, ◌-◌, ◌≤◌, ◌<◌}
use native.Mathlib.Numerals.{add-one}
use native.Mathlib.Omega.{arith}
use mathlib.Core.Path.{◌≡◌, refl, sym, ap, ap₂, ◌∙◌}
use mathlib.Core.Bool.{Bool, true, false, not, ◌&&◌, ◌||◌, true≢false}
use mathlib.Core.List.{List, ◌∷◌}
use lib.Dec.{eqb, ltb}
use lib.Bits.{bit_and, bit_or}
use borrow.Author.Tests.{eq-eqb, ne_eqb, ltb-true, lt-ltb, ltb-false}
use Rattle.finite.specs.Tests.{all, some, count, ◌⇒◌}
use Rattle.finite.specs.Lists.{table}
use Rattle.finite.proofs.Tests.{iff, and_l, and_r, and_i, or_l, or_r, or_e, is_false, all_get, all_make, all_same, all-swap, all-not, imp-all, imp-and, imp-same, imp_e, imp_i, some_make, some-none, count_same, and-true, eqb_sym}
use Rattle.bits.specs.Bit.{bit}
use Rattle.model.specs.Rules.{first}
use Rattle.rows.specs.Sets.{Set}
use Rattle.rows.specs.May.{Relation, may13, may14}
use Rattle.rows.proofs.SetLaws.{but, set_same, either, share, as_set, and-some-imp}
use Rattle.orders.specs.Parts.{closed, transitive_at, listed, coherent}

-- ---- 11

pub closed_no : (k : ℕ) (known asked : ℕ → ℕ → Bool) (a : ℕ) → known a a ≡ true → false ≡ closed k known asked a
closed_no k known asked a h = ap (λ t. not t && (all k λ b. known a b ⇒ (all k λ d. known b d ⇒ asked a d))) (sym h)

pub closed-rest : (k : ℕ) (known asked : ℕ → ℕ → Bool) (a : ℕ) → known a a ≡ false
    → all k (λ b. known a b ⇒ all k (λ d. known b d ⇒ asked a d)) ≡ closed k known asked a
closed-rest k known asked a h = ap (λ t. not t && (all k λ b. known a b ⇒ (all k λ d. known b d ⇒ asked a d))) (sym h)

-- every three events, from a on
pub closed_threes : (k : ℕ) (known asked : ℕ → ℕ → Bool) (a : ℕ) → known a a ≡ false
    → all k (λ b. all k (transitive_at known asked a b)) ≡ closed k known asked a
closed_threes k known asked a h =
    all_same k (λ b. all k (transitive_at known asked a b)) (λ b. known a b ⇒ all k (λ d. known b d ⇒ asked a d))
    (λ b lb.
    all_same k (transitive_at known asked a b) (λ d. known a b ⇒ (known b d ⇒ asked a d)) (λ d ld. imp-and (known a b) (known b d) (asked a d))
    ∙ sym (imp-all k (known a b) (λ d. known b d ⇒ asked a d)))
    ∙ closed-rest k known asked a h

-- ---- 12

but_own_too : (o x y q : Bool) → (o ⇒ (x || (o && y) || q)) ≡ ((o && not q) ⇒ (x || y))
but_own_too true x y q = but true (x || y) q
but_own_too false x y q = refl

pub around : (k : ℕ) (own : ℕ → Bool) (asked : ℕ → ℕ → Bool) (a : ℕ)
    → all k (λ b. own b ⇒ (asked a b || (ltb b k && (own b && asked b a)) || eqb b a)) ≡ all k (λ b. (own b && not (eqb a b)) ⇒ (asked a b || asked b a))
around k own asked a =
    all_same k (λ b. own b ⇒ (asked a b || (ltb b k && (own b && asked b a)) || eqb b a)) (λ b. (own b && not (eqb a b)) ⇒ (asked a b || asked b a))
    (λ b l.
    ap₂ (λ t q. own b ⇒ (asked a b || (t && (own b && asked b a)) || q)) (lt-ltb b k l) (eqb_sym b a)
    ∙ but_own_too (own b) (asked a b) (asked b a) (eqb a b))

-- ---- 13

-- the events before which a barrier, and another event, has to stay
module _ (own barriers partner dependent a : ℕ) where
  abbrev bound : ℕ → Bool
  bound b = bit own b && (bit barriers a || bit barriers b || bit partner b || bit dependent b)

  pub bound_barrier : bit barriers a ≡ true → Set own bound
  bound_barrier h = record {
    has = λ b.
        sym (ap (λ t. bit own b && (t || bit barriers b || bit partner b || bit dependent b)) h ∙ and-true (bit own b));
  }

  pub bound_other : bit barriers a ≡ false → Set (bit_and own (bit_or (bit_or barriers partner) dependent)) bound
  bound_other h =
      set_same (share (as_set {x = own} refl) (either (either (as_set {x = barriers} refl) (as_set {x = partner} refl)) (as_set {x = dependent} refl)))
      (λ b. ap (λ t. bit own b && (t || bit barriers b || bit partner b || bit dependent b)) (sym h))

-- the earlier listed first, from the later and from the earlier
pub by_earlier : (k : ℕ) (own : ℕ → Bool) (q r : ℕ → ℕ → Bool)
    → all k (λ b. own b ⇒ all b (λ a. (own a && q a b) ⇒ r a b)) ≡ all k (λ a. own a ⇒ all k (λ b. (own b && q a b) ⇒ (r a b || ltb b (a + 1))))
by_earlier k own q r = iff onward back
  where
    L : ℕ → Bool
    L b = own b ⇒ all b (λ a. (own a && q a b) ⇒ r a b)

    M : ℕ → ℕ → Bool
    M a b = (own b && q a b) ⇒ (r a b || ltb b (a + 1))

    R : ℕ → Bool
    R a = own a ⇒ all k (M a)

    placed : (a b : ℕ) → (h : all k L ≡ true) → own a ≡ true → b < k → (own b && q a b) ≡ true → (t : Bool) → ltb b (a + 1) ≡ t → (r a b || t) ≡ true
    placed a b h oa lb o true e = or_r (r a b) true refl
    placed a b h oa lb o false e =
        let past : a + 1 ≤ b = ltb-false b (a + 1) e in
        or_l (r a b) false
        (imp_e (own a && q a b) (r a b)
        (all_get b (λ a. (own a && q a b) ⇒ r a b) (imp_e (own b) (all b (λ a. (own a && q a b) ⇒ r a b)) (all_get k L h b lb) (and_l (own b) (q a b) o)) a (omega arith))
        (and_i (own a) (q a b) oa (and_r (own b) (q a b) o)))

    onward : all k L ≡ true → all k R ≡ true
    onward h = all_make k R (λ a la. imp_i (own a) (all k (M a)) (λ oa. all_make k (M a) (λ b lb. imp_i (own b && q a b) (r a b || ltb b (a + 1)) (λ o. placed a b h oa lb o (ltb b (a + 1)) refl))))

    back : all k R ≡ true → all k L ≡ true
    back h = all_make k L (λ b lb. imp_i (own b) (all b (λ a. (own a && q a b) ⇒ r a b)) (λ ob. all_make b (λ a. (own a && q a b) ⇒ r a b)
        (λ a la. imp_i (own a && q a b) (r a b) (λ o.
        or_e (r a b) (ltb b (a + 1)) (λ t. t) (λ t. let l : b < a + 1 = ltb-true b (a + 1) t in absurd (omega arith))
        (imp_e (own b && q a b) (r a b || ltb b (a + 1))
        (all_get k (M a) (imp_e (own a) (all k (M a)) (all_get k R h a (omega arith)) (and_l (own a) (q a b) o)) b lb)
        (and_i (own b) (q a b) ob (and_r (own a) (q a b) o)))))))

pub by_listing : (n k : ℕ) (of : ℕ → ℕ → Bool) (barrier : ℕ → Bool) (one_address depends : ℕ → ℕ → Bool) (asked : Relation)
    → all n (λ p. all k (listed k (of p) barrier one_address depends (asked p))) ≡ may13 n k of barrier one_address depends asked
unfolding may13
by_listing n k of barrier one_address depends asked =
    all_same n (λ p. all k (listed k (of p) barrier one_address depends (asked p)))
    (λ p. all k λ b. of p b ⇒ (all b λ a. (of p a && (barrier a || barrier b || one_address a b || depends a b)) ⇒ asked p a b))
    (λ p l. sym (by_earlier k (of p) (λ a b. barrier a || barrier b || one_address a b || depends a b) (asked p)))

-- ---- 14

pub by_store : (n k : ℕ) (is_store : ℕ → Bool) (store_for written : ℕ → ℕ → Bool) (known : Relation)
    → all k (coherent k n is_store store_for written known) ≡ may14 n k is_store store_for written known
unfolding may14
by_store n k is_store store_for written known =
    all_same k (coherent k n is_store store_for written known) (λ a. all n λ p. is_store a ⇒ all k (λ b. (store_for a b && known p a b) ⇒ written a b))
    (λ a la.
    ap (λ t. is_store a ⇒ t)
    (all_same k (λ b. (store_for a b && (some n λ p. known p a b)) ⇒ written a b) (λ b. all n λ p. (store_for a b && known p a b) ⇒ written a b)
    (λ b lb. and-some-imp n (store_for a b) (λ p. known p a b) (written a b))
    ∙ all-swap k n (λ b p. (store_for a b && known p a b) ⇒ written a b))
    ∙ imp-all n (is_store a) (λ p. all k (λ b. (store_for a b && known p a b) ⇒ written a b)))
    ∙ all-swap k n (λ a p. is_store a ⇒ all k (λ b. (store_for a b && known p a b) ⇒ written a b))

-- the stores of a set, and how many there are
pub count_set : (k : ℕ) {x r : ℕ} {f : ℕ → Bool} → Set x f → r ≡ count k (bit x) → r ≡ count k f
count_set k {x} {r} {f} s h = h ∙ count_same k (bit x) f (λ i l. s.has i)

-- what the first number of the list says
abbrev pick : Bool → Bool → Bool → Bool
pick true y rest = true
pick false true rest = false
pick false false rest = rest

first-cons : (a b x : ℕ) (xs : List ℕ) → first a b (x ∷ xs) ≡ pick (eqb x a) (eqb x b) (first a b xs)
unfolding first
first-cons a b x xs = go (eqb x a) (eqb x b)
  where
    go : (s t : Bool) → (elim s [ true ↦ true | false ↦ elim t [ true ↦ false | false ↦ first a b xs ] ]) ≡ pick s t (first a b xs)
    go true t = refl
    go false true = refl
    go false false = refl

-- a walk along a list of i numbers f, looking for a before any of the set
module _ (k set a : ℕ) (i : ℕ) (f : ℕ → ℕ) where
  pub ahead : ℕ → Bool
  ahead j = all k (λ b. bit set b ⇒ first a b (table j (i - j) f))

  pub record Walked (j : ℕ) : Type 0 where
    pub within : j ≤ i
    pub same : ahead j ≡ all k (λ b. bit set b ⇒ first a b (table 0 i f))

  pub set_out : Walked 0
  unfolding ahead
  set_out = record {
    within = omega arith;
    same = let e : i - 0 ≡ i = omega arith in ap (λ (m : ℕ). all k (λ b. bit set b ⇒ first a b (table 0 m f))) e;
  }

  abbrev rest : ℕ → List ℕ
  rest j = table (j + 1) (i - (j + 1)) f

  one_more : (j : ℕ) → j < i → table j (i - j) f ≡ (f j ∷ rest j)
  unfolding table
  one_more j l =
      let e : i - j ≡ suc (i - (j + 1)) = omega arith in
      ap (λ (m : ℕ). table j m f) e ∙ ap (λ (m : ℕ). f j ∷ table m (i - (j + 1)) f) (sym (add-one j))

  pub met : {j : ℕ} → Walked j → j < i → f j ≡ a → true ≡ all k (λ b. bit set b ⇒ first a b (table 0 i f))
  unfolding ahead first
  met {j} w l h =
      sym (all_make k (λ b. bit set b ⇒ first a b (table j (i - j) f))
      (λ b lb. imp_i (bit set b) (first a b (table j (i - j) f)) (λ t.
      ap (first a b) (one_more j l) ∙ first-cons a b (f j) (rest j) ∙ ap (λ s. pick s (eqb (f j) b) (first a b (rest j))) (eq-eqb (f j) a h))))
      ∙ w.same

  pub passed : {j : ℕ} → Walked j → j < i → (f j ≡ a → ⊥) → f j < k → bit set (f j) ≡ true → false ≡ all k (λ b. bit set b ⇒ first a b (table 0 i f))
  unfolding ahead first
  passed {j} w l h lk t =
      sym (all-not k (λ b. bit set b ⇒ first a b (table j (i - j) f)) (f j) lk
      (ap₂ (λ x y. x ⇒ y) t (ap (first a (f j)) (one_more j l) ∙ first-cons a (f j) (f j) (rest j)
      ∙ ap₂ (λ s u. pick s u (first a (f j) (rest j))) (ne_eqb (f j) a h) (eq-eqb (f j) (f j) refl))))
      ∙ w.same

  pub goes_on : {j : ℕ} → Walked j → j < i → (f j ≡ a → ⊥) → bit set (f j) ≡ false → Walked (j + 1)
  unfolding ahead first
  goes_on {j} w l h t = record {
    within = omega arith;
    same =
        all_same k (λ b. bit set b ⇒ first a b (table (j + 1) (i - (j + 1)) f)) (λ b. bit set b ⇒ first a b (table j (i - j) f))
        (λ b lb. imp-same (bit set b) (λ s. sym (ap (first a b) (one_more j l) ∙ first-cons a b (f j) (rest j)
        ∙ ap₂ (λ s u. pick s u (first a b (rest j))) (ne_eqb (f j) a h) (ne_eqb (f j) b (λ e. true≢false (sym s ∙ ap (bit set) (sym e) ∙ t))))))
        ∙ w.same;
  }

  pub at_end : {j : ℕ} {x : Bool} → Walked j → i ≤ j → x ≡ some k (bit set) → not x ≡ all k (λ b. bit set b ⇒ first a b (table 0 i f))
  unfolding ahead first table
  at_end {j} {x} w l h =
      let z : i - j ≡ 0 = omega arith in
      ap not h ∙ none k
      ∙ all_same k (λ b. bit set b ⇒ false) (λ b. bit set b ⇒ first a b (table j (i - j) f)) (λ b lb. ap (λ (m : ℕ). bit set b ⇒ first a b (table j m f)) (sym z))
      ∙ w.same
    where
      none : (m : ℕ) → not (some m (bit set)) ≡ all m (λ b. bit set b ⇒ false)
      none m = iff
          (λ t. all_make m (λ b. bit set b ⇒ false) (λ b lb. imp_i (bit set b) false (λ s. absurd (true≢false (sym t ∙ ap not (some_make m (bit set) b lb s))))))
          (λ t. ap not (some-none m (bit set) (λ b lb. is_false (λ s. true≢false (sym (imp_e (bit set b) false (all_get m (λ b. bit set b ⇒ false) t b lb) s))))))
