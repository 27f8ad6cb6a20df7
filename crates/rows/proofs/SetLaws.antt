-- Laws of sets.
-- Assumes nothing.
use Prim.Native.Nat.{ℕ, zero, suc, ◌-◌, ◌/◌, ◌%◌, ◌^◌, ◌<◌}
use native.Mathlib.Omega.{arith}
use mathlib.Core.Path.{◌≡◌, refl, sym, ap, ap₂, ◌∙◌, subst}
use mathlib.Core.Bool.{Bool, true, false, not, ◌&&◌, ◌||◌, true≢false}
use native.Mathlib.Nat.{mod-lt}
use borrow.Author.Tests.{eqb-true, eq-eqb, ne_eqb, ltb-true, lt-ltb}
use Rattle.finite.proofs.Tests.{iff, and_l, and_r, and_i, and-swap, or_l, or_r, or_e, is_false, some-none, some_same, some_make, some_out, all_make, all_same, all-swap, imp-and, imp-all, imp_i}
use lib.Dec.{eqb, ltb}
use lib.Bits.{bit_and, bit_or, bit_xor, differ, xor_step, xor_shr}
use lib.Arith.{digits_mod}
use Rattle.finite.specs.Tests.{all, some, ◌⇒◌}
use Rattle.bits.specs.Bit.{bit, width}
use Rattle.bits.proofs.Bits.{bit-zero, bit-or, bit-and, bit_with, bit_below, bit_ones, bit_ext}
use Rattle.rows.specs.Sets.{Set, light_in}
use Rattle.rows.specs.May.{Relation, pairs}
use lib.Pow.{pow_pos}

-- one of the two alone
abbrev pub other : Bool → Bool → Bool
other true b = not b
other false b = b

-- the same set by another test
pub set_same : {r : ℕ} {f g : ℕ → Bool} → Set r f → ((e : ℕ) → f e ≡ g e) → Set r g
set_same s h = record { has = λ e. s.has e ∙ h e }

pub so : (test : Bool) (set : ℕ) → test ≡ true → Set set (λ e. test && bit set e)
so test set h = record { has = λ e. ap (λ t. t && bit set e) (sym h) }

pub not_so : (test : Bool) (set : ℕ) → test ≡ false → Set 0 (λ e. test && bit set e)
not_so test set h = record { has = λ e. bit-zero e ∙ ap (λ t. t && bit set e) (sym h) }

pub single : (i : ℕ) {r : ℕ} → r ≡ bit_or 0 (2 ^ i) → Set r (λ e. eqb e i)
single i {r} h = record { has = λ e. ap (λ (x : ℕ). bit x e) h ∙ bit_with 0 i e ∙ ap (λ t. t || eqb e i) (bit-zero e) }

-- a set where a test passes
pub so_set : {t u : Bool} {x r : ℕ} {f : ℕ → Bool} → Set r (λ e. t && bit x e) → t ≡ u → Set x f → Set r (λ e. u && f e)
so_set s h g = set_same s (λ e. ap₂ (λ a b. a && b) h (g.has e))

pub as_set : {x y : ℕ} → x ≡ y → Set x (bit y)
as_set h = record { has = λ e. ap (λ (z : ℕ). bit z e) h }

-- what a set and another share
pub share : {x y : ℕ} {f g : ℕ → Bool} → Set x f → Set y g → Set (bit_and x y) (λ e. f e && g e)
share {x} {y} s t = record { has = λ e. bit-and x y e ∙ ap₂ (λ a b. a && b) (s.has e) (t.has e) }

-- of the events below k that pass f, those that are e
pub some_only : (k : ℕ) (f : ℕ → Bool) (e : ℕ) → some k (λ a. f a && eqb e a) ≡ (ltb e k && f e)
some_only k f e =
    iff
    (λ h. some_out k (λ a. f a && eqb e a) h
    (λ a l t.
    let q : e ≡ a = eqb-true e a (and_r (f a) (eqb e a) t) in
    and_i (ltb e k) (f e) (lt-ltb e k (subst (λ (m : ℕ). m < k) (sym q) l)) (ap f q ∙ and_l (f a) (eqb e a) t)))
    (λ h. some_make k (λ a. f a && eqb e a) e (ltb-true e k (and_l (ltb e k) (f e) h)) (and_i (f e) (eqb e e) (and_r (ltb e k) (f e) h) (eq-eqb e e refl)))

-- the events of p's pairs, by rows
pub paired_by_rows : (k : ℕ) (r : ℕ → ℕ → Bool) (e : ℕ)
    → some k (λ a. ltb e k && (r a e || (eqb e a && some k (r a)))) ≡ (ltb e k && some k (λ x. r e x || r x e))
paired_by_rows k r e =
    iff
    (λ h. some_out k (λ a. ltb e k && (r a e || (eqb e a && some k (r a)))) h
    (λ a l t.
    let lt = and_l (ltb e k) (r a e || (eqb e a && some k (r a))) t in
    and_i (ltb e k) (some k (λ x. r e x || r x e)) lt
    (or_e (r a e) (eqb e a && some k (r a))
    (λ u. some_make k (λ x. r e x || r x e) a l (or_r (r e a) (r a e) u))
    (λ u. some_out k (r a) (and_r (eqb e a) (some k (r a)) u)
    (λ x lx v. some_make k (λ x. r e x || r x e) x lx
    (or_l (r e x) (r x e) (ap (λ (m : ℕ). r m x) (eqb-true e a (and_l (eqb e a) (some k (r a)) u)) ∙ v))))
    (and_r (ltb e k) (r a e || (eqb e a && some k (r a))) t))))
    (λ h.
    let lt = and_l (ltb e k) (some k (λ x. r e x || r x e)) h in
    let f : ℕ → Bool = λ a. ltb e k && (r a e || (eqb e a && some k (r a))) in
    some_out k (λ x. r e x || r x e) (and_r (ltb e k) (some k (λ x. r e x || r x e)) h)
    (λ x l t. or_e (r e x) (r x e)
    (λ u. some_make k f e (ltb-true e k lt)
    (and_i (ltb e k) (r e e || (eqb e e && some k (r e))) lt
    (or_r (r e e) (eqb e e && some k (r e)) (and_i (eqb e e) (some k (r e)) (eq-eqb e e refl) (some_make k (r e) x l u)))))
    (λ u. some_make k f x l
    (and_i (ltb e k) (r x e || (eqb e x && some k (r x))) lt (or_l (r x e) (eqb e x && some k (r x)) u)))
    t))

-- the events of p's pairs by rows are those of p's pairs
pub paired-set : (k : ℕ) {r : ℕ} (known : Relation) (p : ℕ)
    → Set r (λ e. some k (λ a. ltb e k && (known p a e || (eqb e a && some k (known p a))))) → Set r (λ e. ltb e k && pairs k known p e)
unfolding pairs
paired-set k known p s = set_same s (paired_by_rows k (known p))

-- the events of a set below k
pub masked : (k x : ℕ) {m r : ℕ} → r ≡ bit_and x m → m ≡ 2 ^ k - 1 → Set r (λ e. bit x e && ltb e k)
masked k x h g = record { has = λ e. ap (λ (z : ℕ). bit z e) (h ∙ ap (bit_and x) g) ∙ bit_below x k e }

none_below : (k x : ℕ) {r : ℕ} → Set r (λ e. bit x e && ltb e k) → r ≡ 0 → false ≡ some k (bit x)
none_below k x {r} s z =
    sym (some-none k (bit x)
    (λ i l. is_false (λ t. true≢false
    (sym (and_i (bit x i) (ltb i k) t (lt-ltb i k l)) ∙ sym (s.has i) ∙ ap (λ (y : ℕ). bit y i) z ∙ bit-zero i))))

some_below : (k x : ℕ) {r : ℕ} → r < 2 ^ width → Set r (λ e. bit x e && ltb e k) → (r ≡ 0 → ⊥) → true ≡ some k (bit x)
some_below k x {r} fit s z = by (some k (bit x)) refl
  where
    by : (b : Bool) → some k (bit x) ≡ b → true ≡ b
    by true h = refl
    by false h = absurd (z (bit_ext width r 0 fit (pow_pos width)
        (λ i l. is_false (λ t.
        let u : (bit x i && ltb i k) ≡ true = sym (s.has i) ∙ t in
        true≢false (sym (some_make k (bit x) i (ltb-true i k (and_r (bit x i) (ltb i k) u)) (and_l (bit x i) (ltb i k) u)) ∙ h))
        ∙ sym (bit-zero i))))

pub any_below : (k x r : ℕ) → r < 2 ^ width → Set r (λ e. bit x e && ltb e k) → not (eqb r 0) ≡ some k (bit x)
any_below k x zero fit s = ap not (eq-eqb 0 0 refl) ∙ none_below k x s refl
any_below k x (suc r) fit s = ap not (ne_eqb (suc r) 0 (λ z. omega arith)) ∙ some_below k x fit s (λ z. omega arith)

-- a row's events, and a
pub paired_with : (k a mine : ℕ) {those r : ℕ} → a < k → Set those (λ e. bit mine e && ltb e k) → some k (bit mine) ≡ true → r ≡ bit_or those (2 ^ a)
    → Set r (λ e. ltb e k && (bit mine e || (eqb e a && some k (bit mine))))
paired_with k a mine {those} l s t h = record {
  has = λ e.
      ap (λ (x : ℕ). bit x e) h ∙ bit_with those a e ∙ ap (λ b. b || eqb e a) (s.has e)
      ∙ mixed (bit mine e) (ltb e k) (eqb e a) (λ q. lt-ltb e k (subst (λ (m : ℕ). m < k) (sym (eqb-true e a q)) l))
      ∙ ap (λ b. ltb e k && (bit mine e || (eqb e a && b))) (sym t);
}
  where
    mixed : (m l q : Bool) → (q ≡ true → l ≡ true) → ((m && l) || q) ≡ (l && (m || (q && true)))
    mixed true true q f = refl
    mixed true false true f = sym (f refl)
    mixed true false false f = refl
    mixed false true true f = refl
    mixed false true false f = refl
    mixed false false true f = sym (f refl)
    mixed false false false f = refl

pub paired_none : (k a mine : ℕ) → some k (bit mine) ≡ false → Set 0 (λ e. ltb e k && (bit mine e || (eqb e a && some k (bit mine))))
paired_none k a mine h = record {
  has = λ e. bit-zero e ∙ sym (is_false (λ t.
      let l = and_l (ltb e k) (bit mine e || (eqb e a && some k (bit mine))) t in
      true≢false (or_e (bit mine e) (eqb e a && some k (bit mine))
      (λ u. sym (some_make k (bit mine) e (ltb-true e k l) u))
      (λ u. sym (and_r (eqb e a) (some k (bit mine)) u))
      (and_r (ltb e k) (bit mine e || (eqb e a && some k (bit mine))) t) ∙ h)));
}

-- a set is inside another
pub inside-set : (k : ℕ) {x y : ℕ} {f g : ℕ → Bool} → Set x f → Set y g → all k (λ j. bit x j ⇒ bit y j) ≡ all k (λ j. f j ⇒ g j)
inside-set k {x} {y} {f} {g} s t =
    all_same k (λ j. bit x j ⇒ bit y j) (λ j. f j ⇒ g j) (λ j l. ap₂ (λ a b. a ⇒ b) (s.has j) (t.has j))

-- what two sets hold
pub either : {x y : ℕ} {f g : ℕ → Bool} → Set x f → Set y g → Set (bit_or x y) (λ e. f e || g e)
either {x} {y} s t = record { has = λ e. bit-or x y e ∙ ap₂ (λ a b. a || b) (s.has e) (t.has e) }

-- the same number
pub set_as : {x y : ℕ} {f : ℕ → Bool} → x ≡ y → Set y f → Set x f
set_as {x} {y} {f} h s = subst (λ (z : ℕ). Set z f) (sym h) s

-- the events below k
pub set_below : (k : ℕ) {x : ℕ} → x ≡ 2 ^ k - 1 → Set x (λ e. ltb e k)
set_below k h = record { has = λ e. ap (λ (z : ℕ). bit z e) h ∙ bit_ones k e }

-- a set with one event more
pub set_with : (i : ℕ) {x y : ℕ} {f : ℕ → Bool} → y ≡ bit_or x (2 ^ i) → Set x f → Set y (λ e. f e || eqb e i)
set_with i {x} h s = record { has = λ e. ap (λ (z : ℕ). bit z e) h ∙ bit_with x i e ∙ ap (λ b. b || eqb e i) (s.has e) }

-- ---- tests

pub imp_yes : (x y : Bool) → x ≡ true → y ≡ (x ⇒ y)
imp_yes x y h = ap (λ t. t ⇒ y) (sym h)

pub imp-not : (x y : Bool) → x ≡ false → true ≡ (x ⇒ y)
imp-not x y h = ap (λ t. t ⇒ y) (sym h)

-- an exception
pub but : (o x q : Bool) → (o ⇒ (x || q)) ≡ ((o && not q) ⇒ x)
but true true q = sym (imp_i (not q) true (λ t. refl))
but true false true = refl
but true false false = refl
but false x q = refl

or_imp : (a b y : Bool) → ((a || b) ⇒ y) ≡ ((a ⇒ y) && (b ⇒ y))
or_imp true true true = refl
or_imp true true false = refl
or_imp true false true = refl
or_imp true false false = refl
or_imp false b y = refl

pub some-imp : (n : ℕ) (p : ℕ → Bool) (y : Bool) → (some n p ⇒ y) ≡ all n (λ i. p i ⇒ y)
unfolding some all
some-imp zero p y = refl
some-imp (suc n) p y = or_imp (some n p) (p n) y ∙ ap (λ t. t && (p n ⇒ y)) (some-imp n p y)

pub and-some-imp : (n : ℕ) (x : Bool) (p : ℕ → Bool) (y : Bool) → ((x && some n p) ⇒ y) ≡ all n (λ i. (x && p i) ⇒ y)
and-some-imp n true p y = some-imp n p y
and-some-imp n false p y = sym (all_make n (λ i. true) (λ i l. refl))

-- all that some part holds is in g where each part is
pub union_inside : (n k : ℕ) (m : ℕ → Bool) (r : ℕ → ℕ → Bool) (g : ℕ → Bool)
    → all k (λ d. some n (λ b. m b && r b d) ⇒ g d) ≡ all n (λ b. m b ⇒ all k (λ d. r b d ⇒ g d))
union_inside n k m r g =
    all_same k (λ d. some n (λ b. m b && r b d) ⇒ g d) (λ d. all n (λ b. (m b && r b d) ⇒ g d)) (λ d l. some-imp n (λ b. m b && r b d) (g d))
    ∙ all-swap k n (λ d b. (m b && r b d) ⇒ g d)
    ∙ all_same n (λ b. all k (λ d. (m b && r b d) ⇒ g d)) (λ b. m b ⇒ all k (λ d. r b d ⇒ g d))
    (λ b l. all_same k (λ d. (m b && r b d) ⇒ g d) (λ d. m b ⇒ (r b d ⇒ g d)) (λ d ld. imp-and (m b) (r b d) (g d)) ∙ sym (imp-all k (m b) (λ d. r b d ⇒ g d)))

digit_xor : (x y : ℕ) → x < 2 → y < 2 → eqb (differ x y) 1 ≡ other (eqb x 1) (eqb y 1)
digit_xor zero zero hx hy = refl
digit_xor zero (suc zero) hx hy = refl
digit_xor (suc zero) zero hx hy = refl
digit_xor (suc zero) (suc zero) hx hy = refl
digit_xor zero (suc (suc y)) hx hy = absurd (omega arith)
digit_xor (suc zero) (suc (suc y)) hx hy = absurd (omega arith)
digit_xor (suc (suc x)) y hx hy = absurd (omega arith)

differ_lt : (x y : ℕ) → x < 2 → y < 2 → differ x y < 2
differ_lt zero y hx hy = hy
differ_lt (suc x) zero hx hy = hx
differ_lt (suc zero) (suc y) hx hy = omega arith
differ_lt (suc (suc x)) (suc y) hx hy = absurd (omega arith)

low_xor : (x y : ℕ) → bit_xor x y % 2 ≡ differ (x % 2) (y % 2)
low_xor x y = ap (λ (z : ℕ). z % 2) (xor_step x y) ∙ digits_mod (bit_xor (x / 2) (y / 2)) (differ_lt (x % 2) (y % 2) (mod-lt x (omega arith)) (mod-lt y (omega arith)))

pub bit-xor : (a b i : ℕ) → bit (bit_xor a b) i ≡ other (bit a i) (bit b i)
unfolding bit
bit-xor a b i =
    ap (λ (x : ℕ). eqb (x % 2) 1) (xor_shr a b i) ∙ ap (λ (x : ℕ). eqb x 1) (low_xor (a / 2 ^ i) (b / 2 ^ i))
    ∙ digit_xor (a / 2 ^ i % 2) (b / 2 ^ i % 2) (mod-lt (a / 2 ^ i) (omega arith)) (mod-lt (b / 2 ^ i) (omega arith))

-- a set with i, and then without it
pub taken_out : (set i : ℕ) {x y : ℕ} → x ≡ bit_or set (2 ^ i) → y ≡ bit_or 0 (2 ^ i) → Set (bit_xor x y) (λ e. bit set e && not (eqb e i))
taken_out set i {x} {y} h g = record {
  has = λ e.
      bit-xor x y e ∙ ap₂ other ((set_with i h (as_set refl)).has e) ((single i g).has e) ∙ back (bit set e) (eqb e i);
}
  where
    back : (b q : Bool) → other (b || q) q ≡ (b && not q)
    back true true = refl
    back true false = refl
    back false true = refl
    back false false = refl

-- a set without what it shares with another
pub taken_away : {x y : ℕ} {f g : ℕ → Bool} → Set x f → Set y g → Set (bit_xor x (bit_and x y)) (λ e. f e && not (g e))
taken_away {x} {y} {f} {g} s t = record {
  has = λ e.
      bit-xor x (bit_and x y) e ∙ ap₂ other (s.has e) ((share s t).has e) ∙ left (f e) (g e);
}
  where
    left : (b q : Bool) → other b (b && q) ≡ (b && not q)
    left true true = refl
    left true false = refl
    left false q = refl

-- the events below k that a light barrier orders after e, set by set
pub light_set : (k barriers stores loads e : ℕ) {below near w later r : ℕ} {b s : Bool} → below ≡ 2 ^ k - 1
    → Set near (λ g. bit below g && not (bit barriers g)) → s ≡ bit stores e → Set w (λ g. s && bit loads g)
    → Set later (λ g. bit near g && not (bit w g)) → b ≡ bit barriers e → Set r (λ g. not b && bit later g)
    → Set r (λ g. ltb g k && light_in barriers stores loads e g)
light_set k barriers stores loads e hk near hs w later hb r = set_same r (λ g.
    ap₂ (λ x y. not x && y) hb
    (later.has g
    ∙ ap₂ (λ x y. x && not y) (near.has g ∙ ap (λ x. x && not (bit barriers g)) ((set_below k hk).has g)) (w.has g ∙ ap (λ x. x && bit loads g) hs))
    ∙ turn (not (bit barriers e)) (ltb g k) (not (bit barriers g)) (not (bit stores e && bit loads g)))
  where
    turn : (a l b x : Bool) → (a && ((l && b) && x)) ≡ (l && (a && b && x))
    turn true true b x = refl
    turn true false b x = refl
    turn false true b x = refl
    turn false false b x = refl

-- some number of the set passes
pub some-set : (k : ℕ) {x : ℕ} {f : ℕ → Bool} → Set x f → some k (bit x) ≡ some k f
some-set k {x} {f} s = some_same k (bit x) f (λ i l. s.has i)

-- the events of a set below k that pass a test, by what the set holds
pub of_set : (k : ℕ) {x r : ℕ} {f : ℕ → Bool} (g : ℕ → Bool) → Set x f → Set r (λ e. ltb e k && (bit x e && g e)) → Set r (λ e. f e && (ltb e k && g e))
of_set k {x} {r} {f} g s t = set_same t (λ e. ap (λ b. ltb e k && (b && g e)) (s.has e) ∙ and-swap (ltb e k) (f e) (g e))

-- an exception, of what is asked about anyway
pub but_own : (o x q : Bool) → (o ⇒ ((o && x) || q)) ≡ ((o && not q) ⇒ x)
but_own true x q = but true x q
but_own false x q = refl
