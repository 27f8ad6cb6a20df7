-- Laws of tests, of `all`, `some` and `count`: how a loop makes one, and how a fact is taken out of one.
-- Assumes nothing.
use mathlib.Core.Path.{◌≡◌, refl, sym, ap, ap₂, ◌∙◌, subst}
use mathlib.Core.Bool.{Bool, true, false, not, cond, ◌&&◌, ◌||◌, true≢false, false≢true}
use mathlib.Core.Logic.{⊎_elim}
use Prim.Native.Nat.{ℕ, zero, suc, ◌+◌, ◌≤◌, ◌<◌}
use native.Mathlib.Nat.{eq-or-lt_of_le, le_of_suc-le-suc, not-suc-le-zero, le_refl, le_antisymm}
use borrow.Author.Tests.{not-true, not-false, lt-ltb, ltb-true, eq-eqb, eqb-true}
use lib.Dec.{ltb, eqb}
use native.Mathlib.Numerals.{add-one}
use native.Mathlib.Omega.{arith}
use native.Mathlib.Decide.{dec_le, ℕ_discrete}
use mathlib.Core.Logic.{◌↔◌}
use lib.Dec.{T}
use Rattle.finite.specs.Tests.{all, some, count, tick, ◌⇒◌}

-- ---- tests

-- two tests that follow from each other are equal
pub iff : {x y : Bool} → (x ≡ true → y ≡ true) → (y ≡ true → x ≡ true) → x ≡ y
iff {x = true} {y = y} f g = sym (f refl)
iff {x = false} {y = true} f g = g refl
iff {x = false} {y = false} f g = refl

pub and_l : (x y : Bool) → (x && y) ≡ true → x ≡ true
and_l true y e = refl
and_l false y e = e

pub and_r : (x y : Bool) → (x && y) ≡ true → y ≡ true
and_r true y e = e
and_r false y e = absurd (false≢true e)

pub and_i : (x y : Bool) → x ≡ true → y ≡ true → (x && y) ≡ true
and_i true y e h = h
and_i false y e h = e

pub and-true : (x : Bool) → (x && true) ≡ x
and-true true = refl
and-true false = refl

pub and-false : (x : Bool) → (x && false) ≡ false
and-false true = refl
and-false false = refl

pub and_comm : (x y : Bool) → (x && y) ≡ (y && x)
and_comm true y = sym (and-true y)
and_comm false y = sym (and-false y)

pub and-swap : (x y z : Bool) → (x && (y && z)) ≡ (y && (x && z))
and-swap true y z = refl
and-swap false true z = refl
and-swap false false z = refl

pub imp_e : (x y : Bool) → (x ⇒ y) ≡ true → x ≡ true → y ≡ true
imp_e true y h e = h
imp_e false y h e = absurd (false≢true e)

pub imp_i : (x y : Bool) → (x ≡ true → y ≡ true) → (x ⇒ y) ≡ true
imp_i true y f = f refl
imp_i false y f = refl

-- an implication whose first test failed
pub imp_no : (x y : Bool) → x ≡ false → (x ⇒ y) ≡ true
imp_no x y e = imp_i x y (λ t. absurd (true≢false (sym t ∙ e)))

-- where its first test passed and its second is one of two: the first of these passes, or the second decides
pub imp-first : (x y z : Bool) → x ≡ true → y ≡ true → true ≡ (x ⇒ (y || z))
imp-first x y z h g = ap₂ (λ a b. a ⇒ (b || z)) (sym h) (sym g)

pub imp-second : (x y z : Bool) → x ≡ true → y ≡ false → z ≡ (x ⇒ (y || z))
imp-second x y z h g = ap₂ (λ a b. a ⇒ (b || z)) (sym h) (sym g)

-- what its second test is counts only where its first passes
pub imp-same : (x : Bool) {y z : Bool} → (x ≡ true → y ≡ z) → (x ⇒ y) ≡ (x ⇒ z)
imp-same true h = h refl
imp-same false h = refl

-- what is not true is false
pub is_false : {x : Bool} → (x ≡ true → ⊥) → x ≡ false
is_false {x = true} f = absurd (f refl)
is_false {x = false} f = refl

pub or_l : (x y : Bool) → x ≡ true → (x || y) ≡ true
or_l true y e = refl
or_l false y e = absurd (false≢true e)

pub or_r : (x y : Bool) → y ≡ true → (x || y) ≡ true
or_r true y e = refl
or_r false y e = e

pub or_false : (x : Bool) → (x || false) ≡ x
or_false true = refl
or_false false = refl

or_right : (x : Bool) → (x || true) ≡ true
or_right true = refl
or_right false = refl

pub or_comm : (x y : Bool) → (x || y) ≡ (y || x)
or_comm true y = sym (or_right y)
or_comm false y = sym (or_false y)

pub or_e : {G : Type 0} (x y : Bool) → (x ≡ true → G) → (y ≡ true → G) → (x || y) ≡ true → G
or_e true y f g h = f refl
or_e false y f g h = g h

-- ---- all

pub all_none : (p : ℕ → Bool) → all 0 p ≡ true
unfolding all
all_none p = refl

pub all-suc : (n : ℕ) (p : ℕ → Bool) → all (suc n) p ≡ (all n p && p n)
unfolding all
all-suc n p = refl

pub all_get : (n : ℕ) (p : ℕ → Bool) → all n p ≡ true → (i : ℕ) → i < n → p i ≡ true
unfolding all
all_get zero p h i l = absurd (not-suc-le-zero l)
all_get (suc n) p h i l =
    ⊎_elim (λ e. subst (λ (k : ℕ). p k ≡ true) (sym e) (and_r (all n p) (p n) h)) (λ lt. all_get n p (and_l (all n p) (p n) h) i lt)
    (eq-or-lt_of_le (le_of_suc-le-suc l))

pub all_make : (n : ℕ) (p : ℕ → Bool) → ((i : ℕ) → i < n → p i ≡ true) → all n p ≡ true
unfolding all
all_make zero p f = refl
all_make (suc n) p f = and_i (all n p) (p n) (all_make n p (λ i l. f i (omega arith))) (f n (le_refl (suc n)))

pub all-next : (n : ℕ) (p : ℕ → Bool) → all (n + 1) p ≡ (all n p && p n)
all-next n p = ap (λ (m : ℕ). all m p) (add-one n) ∙ all-suc n p

-- one more turn of a loop
pub all_more : (n : ℕ) (p : ℕ → Bool) → all n p ≡ true → p n ≡ true → all (n + 1) p ≡ true
all_more n p h e = all-next n p ∙ and_i (all n p) (p n) h e

-- a turn that fails
pub all-not : (n : ℕ) (p : ℕ → Bool) (i : ℕ) → i < n → p i ≡ false → all n p ≡ false
all-not n p i l e = is_false (λ h. true≢false (sym (all_get n p h i l) ∙ e))

-- the same test at every number
pub all_same : (n : ℕ) (p q : ℕ → Bool) → ((i : ℕ) → i < n → p i ≡ q i) → all n p ≡ all n q
all_same n p q f =
    iff (λ h. all_make n q (λ i l. sym (f i l) ∙ all_get n p h i l)) (λ h. all_make n p (λ i l. f i l ∙ all_get n q h i l))

pub all-and : (n : ℕ) (p q : ℕ → Bool) → (all n p && all n q) ≡ all n (λ i. p i && q i)
all-and n p q =
    iff
    (λ h. all_make n (λ i. p i && q i)
    (λ i l. and_i (p i) (q i) (all_get n p (and_l (all n p) (all n q) h) i l) (all_get n q (and_r (all n p) (all n q) h) i l)))
    (λ h. and_i (all n p) (all n q)
    (all_make n p (λ i l. and_l (p i) (q i) (all_get n (λ i. p i && q i) h i l)))
    (all_make n q (λ i l. and_r (p i) (q i) (all_get n (λ i. p i && q i) h i l))))

-- ---- an implication goes inside

pub imp-and : (x y z : Bool) → ((x && y) ⇒ z) ≡ (x ⇒ (y ⇒ z))
imp-and true y z = refl
imp-and false y z = refl

pub imp-all : (n : ℕ) (x : Bool) (p : ℕ → Bool) → (x ⇒ all n p) ≡ all n (λ i. x ⇒ p i)
imp-all n true p = refl
imp-all n false p = sym (all_make n (λ i. true) (λ i l. refl))

pub all-swap : (n m : ℕ) (p : ℕ → ℕ → Bool) → all n (λ i. all m (λ j. p i j)) ≡ all m (λ j. all n (λ i. p i j))
all-swap n m p =
    iff
    (λ h. all_make m (λ j. all n (λ i. p i j)) (λ j lj. all_make n (λ i. p i j) (λ i li. all_get m (λ j. p i j) (all_get n (λ i. all m (λ j. p i j)) h i li) j lj)))
    (λ h. all_make n (λ i. all m (λ j. p i j)) (λ i li. all_make m (λ j. p i j) (λ j lj. all_get n (λ i. p i j) (all_get m (λ j. all n (λ i. p i j)) h j lj) i li)))

-- ---- a loop `for i in 0..n { if !test(i) { return false; } } true`, whose test answers x at i
module _ (n : ℕ) (p : ℕ → Bool) (i : ℕ) where
  pub loop_fails : {x : Bool} → i < n → x ≡ p i → not x ≡ true → false ≡ all n p
  loop_fails {x} l e h = sym (all-not n p i l (sym e ∙ not-true x h))

  pub loop_goes_on : {x : Bool} → all i p ≡ true → x ≡ p i → not x ≡ false → all (i + 1) p ≡ true
  loop_goes_on {x} a e h = all_more i p a (sym e ∙ not-false x h)

  pub loop_ends : all i p ≡ true → i ≤ n → n ≤ i → true ≡ all n p
  loop_ends a l g = sym a ∙ ap (λ (m : ℕ). all m p) (le_antisymm l g)

-- ---- a loop that gathers the numbers below n that pass a test, one turn a number

ltb-more : (i j : ℕ) → ltb i (j + 1) ≡ (ltb i j || eqb i j)
ltb-more i j =
    iff
    (λ h. ⊎_elim (λ e. or_r (ltb i j) (eqb i j) (eq-eqb i j e)) (λ l. or_l (ltb i j) (eqb i j) (lt-ltb i j l))
    (eq-or-lt_of_le (le_of_suc-le-suc (subst (λ (m : ℕ). i < m) (add-one j) (ltb-true i (j + 1) h)))))
    (λ h. lt-ltb i (j + 1)
    (or_e (ltb i j) (eqb i j) (λ a. let l : i < j = ltb-true i j a in omega arith) (λ a. let e : i ≡ j = eqb-true i j a in omega arith) h))

pick_in : (l e o : Bool) → (e ≡ true → o ≡ true) → ((l && o) || e) ≡ ((l || e) && o)
pick_in true true o f = or_right o ∙ sym (f refl)
pick_in true false o f = or_false o
pick_in false true o f = sym (f refl)
pick_in false false o f = refl

pick_out : (l e o : Bool) → (e ≡ true → o ≡ false) → (l && o) ≡ ((l || e) && o)
pick_out true e o f = refl
pick_out false true o f = sym (f refl)
pick_out false false o f = refl

module _ (p : ℕ → Bool) (j : ℕ) (i : ℕ) where
  pub gather_in : p j ≡ true → ((ltb i j && p i) || eqb i j) ≡ (ltb i (j + 1) && p i)
  gather_in h =
      pick_in (ltb i j) (eqb i j) (p i) (λ e. ap p (eqb-true i j e) ∙ h) ∙ ap (λ t. t && p i) (sym (ltb-more i j))

  pub gather_out : p j ≡ false → (ltb i j && p i) ≡ (ltb i (j + 1) && p i)
  gather_out h =
      pick_out (ltb i j) (eqb i j) (p i) (λ e. ap p (eqb-true i j e) ∙ h) ∙ ap (λ t. t && p i) (sym (ltb-more i j))

-- ---- some

pub some_make : (n : ℕ) (p : ℕ → Bool) (i : ℕ) → i < n → p i ≡ true → some n p ≡ true
unfolding some
some_make zero p i l e = absurd (not-suc-le-zero l)
some_make (suc n) p i l e =
    ⊎_elim (λ s. or_r (some n p) (p n) (subst (λ (k : ℕ). p k ≡ true) s e)) (λ lt. or_l (some n p) (p n) (some_make n p i lt e))
    (eq-or-lt_of_le (le_of_suc-le-suc l))

-- what follows where it passes, whichever number it is
pub some_out : {G : Type 0} (n : ℕ) (p : ℕ → Bool) → some n p ≡ true → ((i : ℕ) → i < n → p i ≡ true → G) → G
unfolding some
some_out zero p h f = absurd (false≢true h)
some_out (suc n) p h f = or_e (some n p) (p n) (λ t. some_out n p t (λ i l. f i (omega arith))) (f n (le_refl (suc n))) h

-- where it fails everywhere
pub some-none : (n : ℕ) (p : ℕ → Bool) → ((i : ℕ) → i < n → p i ≡ false) → some n p ≡ false
unfolding some
some-none zero p f = refl
some-none (suc n) p f = ap₂ ◌||◌ (some-none n p (λ i l. f i (omega arith))) (f n (le_refl (suc n)))

pub some_same : (n : ℕ) (p q : ℕ → Bool) → ((i : ℕ) → i < n → p i ≡ q i) → some n p ≡ some n q
unfolding some
some_same zero p q f = refl
some_same (suc n) p q f = ap₂ ◌||◌ (some_same n p q (λ i l. f i (omega arith))) (f n (le_refl (suc n)))

-- of either of two tests
pub some_or : (n : ℕ) (p q : ℕ → Bool) → some n (λ i. p i || q i) ≡ (some n p || some n q)
unfolding some
some_or zero p q = refl
some_or (suc n) p q = ap (λ t. t || (p n || q n)) (some_or n p q) ∙ mixed (some n p) (some n q) (p n) (q n)
  where
    mixed : (a b c d : Bool) → ((a || b) || (c || d)) ≡ ((a || c) || (b || d))
    mixed true b c d = refl
    mixed false true true d = refl
    mixed false true false d = refl
    mixed false false c d = refl

-- a test that does not depend on the number goes outside
pub some-and : (n : ℕ) (x : Bool) (p : ℕ → Bool) → some n (λ i. x && p i) ≡ (x && some n p)
some-and n true p = refl
some-and n false p = some-none n (λ i. false) (λ i l. refl)

-- a test that passes below n only, asked of m numbers
pub some-within : (n m : ℕ) (p : ℕ → Bool) → n ≤ m → ((i : ℕ) → p i ≡ true → i < n) → some m p ≡ some n p
some-within n m p l f =
    iff (λ h. some_out m p h (λ i _ t. some_make n p i (f i t) t)) (λ h. some_out n p h (λ i li t. some_make m p i (omega (arith, l, li)) t))

-- a loop `for i in 0..n { if test(i) { return true; } } false`, whose test answers x at i
module _ (n : ℕ) (p : ℕ → Bool) (i : ℕ) where
  pub find_found : {x : Bool} → i < n → x ≡ p i → x ≡ true → true ≡ some n p
  find_found {x} l e h = sym (some_make n p i l (sym e ∙ h))

  pub find_goes_on : {x : Bool} → some i p ≡ false → x ≡ p i → x ≡ false → some (i + 1) p ≡ false
  unfolding some
  find_goes_on {x} a e h = rw (add-one i, a) (sym e ∙ h)

  pub find_ends : some i p ≡ false → i ≤ n → n ≤ i → false ≡ some n p
  find_ends a l g = sym a ∙ ap (λ (m : ℕ). some m p) (le_antisymm l g)

pub some_empty : (p : ℕ → Bool) → some 0 p ≡ false
unfolding some
some_empty p = refl

-- ---- count

pub count_same : (n : ℕ) (p q : ℕ → Bool) → ((i : ℕ) → i < n → p i ≡ q i) → count n p ≡ count n q
unfolding count
count_same zero p q f = refl
count_same (suc n) p q f = ap₂ (λ x y. x + tick y) (count_same n p q (λ i l. f i (omega arith))) (f n (omega arith))

-- one more number
pub count-more : (n : ℕ) (p : ℕ → Bool) → count (n + 1) p ≡ count n p + tick (p n)
unfolding count
count-more n p = rw add-one

pub tick-le : (b : Bool) → tick b ≤ 1
tick-le true = omega arith
tick-le false = omega arith

-- a test as a digit, and a digit as a test
pub tick-one : (b : Bool) → eqb (tick b) 1 ≡ b
tick-one true = refl
tick-one false = refl

pub one-tick : (x : ℕ) → x < 2 → tick (eqb x 1) ≡ x
one-tick zero h = refl
one-tick (suc zero) h = refl
one-tick (suc (suc x)) h = absurd (omega arith)

-- more numbers pass among more
pub count_mono : (n j : ℕ) (p : ℕ → Bool) → n ≤ j → count n p ≤ count j p
unfolding count
count_mono n zero p h = let z : n ≡ 0 = omega arith in rw z (le_refl 0)
count_mono n (suc j) p h = go (dec_le n j) (count_mono n j p)
  where
    go : Dec (n ≤ j) → (n ≤ j → count n p ≤ count j p) → count n p ≤ count j p + tick (p j)
    go (yes l) ih = omega (arith, ih l)
    go (no d) ih = let z : n ≡ suc j = omega arith in rw z (le_refl _)

pub count-le : (n : ℕ) (p : ℕ → Bool) → count n p ≤ n
unfolding count
count-le zero p = omega arith
count-le (suc n) p = omega (arith, count-le n p, tick-le (p n))

-- fewer numbers pass p where all that pass p pass q
tick-part : (x y : Bool) → (x ≡ true → y ≡ true) → tick x ≤ tick y
tick-part true y h = rw (h refl) (omega arith)
tick-part false y h = omega arith

count-part : (n : ℕ) (p q : ℕ → Bool) → ((i : ℕ) → i < n → p i ≡ true → q i ≡ true) → count n p ≤ count n q
unfolding count
count-part zero p q h = omega arith
count-part (suc n) p q h = omega (arith, count-part n p q (λ i l. h i (omega arith)), tick-part (p n) (q n) (h n (omega arith)))

less_at : (n : ℕ) (p q : ℕ → Bool) (j : ℕ) → ((i : ℕ) → i < suc n → p i ≡ true → q i ≡ true) → j < suc n → q j ≡ true → p j ≡ false
    → (j < n → count n p < count n q) → Dec (j ≡ n) → count (suc n) p < count (suc n) q
unfolding count
less_at n p q j h l t f below (yes e) =
    let tp : tick (p n) ≡ 0 = ap tick (ap p (sym e) ∙ f) in
    let tq : tick (q n) ≡ 1 = ap tick (ap q (sym e) ∙ t) in
    omega (arith, count-part n p q (λ i l. h i (omega arith)))
less_at n p q j h l t f below (no d) = omega (arith, below (omega arith), tick-part (p n) (q n) (h n (omega arith)))

-- all that pass p pass q, and j passes q alone
pub count_less : (n : ℕ) (p q : ℕ → Bool) → ((i : ℕ) → i < n → p i ≡ true → q i ≡ true) → (j : ℕ) → j < n → q j ≡ true → p j ≡ false → count n p < count n q
count_less zero p q h j l t f = absurd (omega arith)
count_less (suc n) p q h j l t f = less_at n p q j h l t f (λ lj. count_less n p q (λ i l. h i (omega arith)) j lj t f) (ℕ_discrete j n)

-- ---- equal numbers

pub eqb_sym : (a b : ℕ) → eqb a b ≡ eqb b a
eqb_sym a b = iff (λ h. eq-eqb b a (sym (eqb-true a b h))) (λ h. eq-eqb a b (sym (eqb-true b a h)))

-- ---- tests as propositions

pub true-T : {b : Bool} → b ≡ true → T b
true-T e = rw e tt

pub T_true : {b : Bool} → T b → b ≡ true
T_true {b = true} t = refl
T_true {b = false} t = absurd t

pub and_left : (a b : Bool) → T (a && b) → T a
and_left true b t = tt
and_left false b t = t

pub and_right : (a b : Bool) → T (a && b) → T b
and_right true b t = t
and_right false b t = absurd t

pub and_T : (a b : Bool) → T (a && b) → T a × T b
and_T a b t = (and_left a b t, and_right a b t)

pub T_and : (a b : Bool) → T a → T b → T (a && b)
T_and true b p q = q
T_and false b p q = p

pub imp-T : (a b : Bool) → T (a ⇒ b) → T a → T b
imp-T true b t u = t
imp-T false b t u = absurd u

pub T-imp : (a b : Bool) → (T a → T b) → T (a ⇒ b)
T-imp true b f = f tt
T-imp false b f = tt

pub all-T : (n : ℕ) (f : ℕ → Bool) → T (all n f) → (i : ℕ) → i < n → T (f i)
all-T n f t i l = true-T (all_get n f (T_true t) i l)

pub T-all : (n : ℕ) (f : ℕ → Bool) → ((i : ℕ) → i < n → T (f i)) → T (all n f)
T-all n f g = true-T (all_make n f (λ i l. T_true (g i l)))

pub all-iff : (n : ℕ) (f : ℕ → Bool) → T (all n f) ↔ ((i : ℕ) → i < n → T (f i))
all-iff n f = (all-T n f, T-all n f)

pub and-iff : (a b : Bool) → T (a && b) ↔ (T a × T b)
and-iff a b = (and_T a b, λ h. T_and a b h.0 h.1)

pub imp-iff : (a b : Bool) → T (a ⇒ b) ↔ (T a → T b)
imp-iff a b = (imp-T a b, T-imp a b)

-- two tests that imply one another are the same
pub same_test : (a b : Bool) → (T a → T b) → (T b → T a) → a ≡ b
same_test true true f g = refl
same_test true false f g = absurd (f tt)
same_test false true f g = absurd (g tt)
same_test false false f g = refl

-- the second test counts only where the first passes
pub imp_cong : (a b b' : Bool) → (T a → b ≡ b') → (a ⇒ b) ≡ (a ⇒ b')
imp_cong true b b' f = f tt
imp_cong false b b' f = refl

-- a number below n fails
pub all-fails : (n : ℕ) (f : ℕ → Bool) (k : ℕ) → k < n → (T (f k) → ⊥) → all n f ≡ false
all-fails n f k h d = same_test (all n f) false (λ t. d (all-T n f t k h)) absurd

pub and_four : (a b c d : Bool) → T (a && (b && (c && d))) → T a × T b × T c × T d
and_four a b c d t =
    let u = and_right a _ t in
    let v = and_right b _ u in
    (and_left a _ t, and_left b _ u, and_left c d v, and_right c d v)

-- one of two passes, and it is not the second
pub first_of : (a b : Bool) → T (a || not b) → T b → T a
first_of true b t u = tt
first_of false true t u = t
first_of false false t u = u

pub eq-T : (m n : ℕ) → m ≡ n → T (eqb m n)
eq-T m n e = true-T (eq-eqb m n e)

-- the same test twice over
pub all2_T : (n m : ℕ) (f : ℕ → ℕ → Bool) → T (all n (λ a. all m (f a))) → (a b : ℕ) → a < n → b < m → T (f a b)
all2_T n m f t a b ha hb = all-T m (f a) (all-T n (λ a. all m (f a)) t a ha) b hb

-- s maps the numbers below n among themselves, and t is its inverse there: a test of each is a test of each image
pub all_moved :
    (n : ℕ) (s t : ℕ → ℕ) → ((k : ℕ) → k < n → s k < n) → ((k : ℕ) → k < n → t k < n) → ((k : ℕ) → k < n → s (t k) ≡ k)
    → (f : ℕ → Bool) → all n (λ x. f (s x)) ≡ all n f
all_moved n s t hs ht st f =
    same_test (all n (λ x. f (s x))) (all n f)
    (λ a. T-all n f (λ k h. subst (λ (m : ℕ). T (f m)) (st k h) (all-T n (λ x. f (s x)) a (t k) (ht k h))))
    (λ a. T-all n (λ x. f (s x)) (λ k h. all-T n f a (s k) (hs k h)))

-- two conditional values with one test
pub cond_same : {A : Type 0} (s t : Bool) (x y z : A) → s ≡ t → (T s → x ≡ y) → cond s x z ≡ cond t y z
cond_same s t x y z e f = from s f ∙ ap (λ (b : Bool). cond b y z) e
  where
    from : (b : Bool) → (T b → x ≡ y) → cond b x z ≡ cond b y z
    from true g = g tt
    from false g = refl
