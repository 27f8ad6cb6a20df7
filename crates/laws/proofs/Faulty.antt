-- A reader and a part of a record that may have a fault: what it reads, or with which number it refuses. The laws of every reader.
-- Assumes nothing.
use Prim.Native.Nat.{ℕ, zero, suc, ◌+◌, ◌-◌, ◌^◌, ◌≤◌, ◌<◌}
use native.Mathlib.Nat.{add_assoc}
use native.Mathlib.Omega.{arith}
use mathlib.Core.Path.{◌≡◌, refl, ap, ◌∙◌, subst}
use mathlib.Core.Bool.{Bool, true, false, cond, ◌&&◌}
use mathlib.Core.Logic.{◌⊎◌, inl, inr}
use mathlib.Core.List.{List, [], ◌∷◌, ◌++◌, append_assoc, append-nil}
use lib.Dec.{leb, ltb, lit≤}
use lib.ListN.{length, drop, length-append, length-drop}
use borrow.Author.Tests.{le-leb, lt-leb, lt-ltb, le-ltb}
use Rattle.finite.specs.Lists.{each, every, All}
use Rattle.number.specs.Number.{groups, encode, read_number}
use Rattle.number.specs.Reader.{Out, stop, next, Reader, give, ◌>>=◌, onward, unless, tested, turns, another, times, up_to, within, below, under}
use Rattle.number.proofs.Laws.{read_at, read_above, read_wide, past}
use Rattle.number.proofs.Encoding.{lt_or_ge}
use Rattle.codec.proofs.ReadsAs.{ReadsAs, reads_give}
use Rattle.model.specs.Limits.{between}
use Rattle.model.specs.Rules.{or_else}
use Rattle.model.specs.Fault.{first_fault}
use Rattle.model.proofs.Faultless.{passed}

-- y is the refusal of a reading where x is that of the case: x itself; or 2 for 3, for a number of too many groups, and then W holds
abbrev pub Alike : (W : Type 0) (x y : ℕ) → Type 0
Alike W x y = ((y ≡ x) × (3 ≤ x)) ⊎ ((y ≡ 2) × (x ≡ 3) × W)

-- what is read where a part of a record has the fault x: a, up to the place p, if there is none
abbrev pub Meets : {A : Type 0} → (W : Type 0) (a : A) (p x : ℕ) → Out A → Type 0
Meets W a p zero o = o ≡ next a p
Meets W a p (suc x) (stop y q) = Alike W (suc x) y
Meets W a p (suc x) (next b q) = ⊥

-- r reads the bytes bs as a, wherever they stand, unless x is a fault, with which it refuses them then
pub record Faulty {A : Type 0} (W : Type 0) (r : Reader A) (bs : List ℕ) (a : A) (x : ℕ) : Type 0 where
  pub run : (s : List ℕ) (at : ℕ) (t : List ℕ) → at ≤ length s → drop at s ≡ bs ++ t → Meets W a (at + length bs) x (r s at)

-- W holds where v has more groups than there may be
abbrev pub Wide : (W : Type 0) → ℕ → Type 0
Wide W v = 128 ^ groups ≤ v → W

-- the first fault of xs, each behind those before it
abbrev pub along : {A : Type 0} → (List A → A → ℕ) → List A → List A → ℕ
along flaw before [] = 0
along flaw before (x ∷ xs) = first_fault (flaw before x) (along flaw (before ++ (x ∷ [])) xs)

-- each of xs has its fault where it stands, for the reader that goes by those before it
abbrev pub Steps : {A : Type 0} → (W : Type 0) → (List A → Reader A) → (A → List ℕ) → (List A → A → ℕ) → List A → List A → Type 0
Steps W r enc flaw before [] = Unit {0}
Steps W r enc flaw before (x ∷ xs) = Faulty W (r before) (enc x) x (flaw before x) × Steps W r enc flaw (before ++ (x ∷ [])) xs

-- ---- faults of several tests

pub two : (a b : Bool) → first_fault (or_else a 3 0) (or_else b 3 0) ≡ or_else (a && b) 3 0
two true b = refl
two false b = refl

pub three : (a b c : Bool) → first_fault (or_else a 3 0) (first_fault (or_else b 3 0) (or_else c 3 0)) ≡ or_else (a && b && c) 3 0
three true b c = two b c
three false b c = refl

pub if_passed : (a : Bool) (x : ℕ) → first_fault (or_else a 3 0) x ≡ or_else a 3 x
if_passed true x = refl
if_passed false x = refl

pub listed : (a b : Bool) (x : ℕ) → first_fault (first_fault (or_else a 3 0) (or_else b 4 0)) x ≡ or_else a 3 (or_else b 4 x)
listed true true x = refl
listed true false x = refl
listed false b x = refl

pub apart : (a b c : Bool) (x : ℕ) → or_else (a && b && c) 3 x ≡ or_else a 3 (or_else b 3 (or_else c 3 x))
apart true true c x = refl
apart true false c x = refl
apart false b c x = refl

-- ---- a reader and a fault

module _ {W : Type 0} where
  pub faultless_read : {A : Type 0} {r : Reader A} {bs : List ℕ} {a : A} → ReadsAs r bs a → Faulty W r bs a 0
  faultless_read p = record { run = p.run }

  pub faulty_reads : {A : Type 0} {r : Reader A} {bs : List ℕ} {a : A} → Faulty W r bs a 0 → ReadsAs r bs a
  faulty_reads p = record { run = p.run }

  -- the same fault in other words
  pub faulty_as : {A : Type 0} {r : Reader A} {bs : List ℕ} {a : A} {x y : ℕ} → x ≡ y → Faulty W r bs a x → Faulty W r bs a y
  faulty_as {r = r} {bs = bs} {a = a} e p = subst (λ (x : ℕ). Faulty W r bs a x) e p

  -- the last of a do block
  pub faulty_last : {A B : Type 0} {r : Reader A} (f : A → B) {bs : List ℕ} {a : A} {x : ℕ} → Faulty W r bs a x → Faulty W (r >>= λ y. give (f y)) bs (f a) x
  faulty_last {A} {B} {r} f {bs} {a} {x} p = record { run = λ s at t b h. go s at x (r s at) (p.run s at t b h) }
    where
      go : (s : List ℕ) (at x : ℕ) (o : Out A) → Meets W a (at + length bs) x o → Meets W (f a) (at + length bs) x (onward (λ y q. next (f y) q) o)
      go s at zero o e = rw e
      go s at (suc x) (stop y q) m = m
      go s at (suc x) (next y q) m = m

  -- one part and then another: what is behind a fault has no say
  pub faulty_bind : {A B : Type 0} {r : Reader A} (f : A → Reader B) {bs bs' : List ℕ} {a : A} {b : B} {x y : ℕ}
      → Faulty W r bs a x → (x ≡ 0 → Faulty W (f a) bs' b y) → Faulty W (r >>= f) (bs ++ bs') b (first_fault x y)
  faulty_bind {A} {B} {r} f {bs} {bs'} {a} {b} {x} {y} p q = record { run = λ s at t l h. go s at t l h x (r s at) (p.run s at (bs' ++ t) l (h ∙ append_assoc bs bs' t)) q }
    where
      go : (s : List ℕ) (at : ℕ) (t : List ℕ) → at ≤ length s → drop at s ≡ (bs ++ bs') ++ t → (x : ℕ) (o : Out A) → Meets W a (at + length bs) x o
          → (x ≡ 0 → Faulty W (f a) bs' b y) → Meets W b (at + length (bs ++ bs')) (first_fault x y) (onward (λ c p. f c s p) o)
      go s at t l h zero o e q =
          let h' : drop at s ≡ bs ++ (bs' ++ t) = h ∙ append_assoc bs bs' t in
          let l' : at + length bs ≤ length s = omega (arith, simp (length-drop, length-append) at (ap length h')) in
          let there : at + length bs + length bs' ≡ at + length (bs ++ bs') = simp (length-append, add_assoc) in
          rw (e, ← there) ((q refl).run s (at + length bs) t l' (past s bs (bs' ++ t) at h'))
      go s at t l h (suc x) (stop z w) m q = m
      go s at t l h (suc x) (next c w) m q = absurd m

  -- the same where the first part's fault is that of one test
  pub faulty_then : {A B : Type 0} {r : Reader A} (f : A → Reader B) {bs bs' : List ℕ} {a : A} {b : B} (t : Bool) {y : ℕ}
      → Faulty W r bs a (or_else t 3 0) → (t ≡ true → Faulty W (f a) bs' b y) → Faulty W (r >>= f) (bs ++ bs') b (or_else t 3 y)
  faulty_then f t {y} p q = faulty_as (if_passed t y) (faulty_bind f p (λ z. q (passed t 2 0 z).here))

  pub faulty_unless : {A : Type 0} (z : ℕ) → 2 ≤ z → (test : A → Bool) {r : Reader A} {bs : List ℕ} {a : A} {x : ℕ}
      → Faulty W r bs a x → Faulty W (unless (suc z) test r) bs a (first_fault x (or_else (test a) (suc z) 0))
  unfolding unless
  faulty_unless {A} z least test {r} {bs} {a} {x} p = record { run = λ s at t l h. go s at x (r s at) (p.run s at t l h) }
    where
      by : (s : List ℕ) (at : ℕ) (t : Bool) → Meets W a (at + length bs) (or_else t (suc z) 0) (cond t (next a (at + length bs)) (stop (suc z) at))
      by s at true = refl
      by s at false = inl (refl, omega arith)

      go : (s : List ℕ) (at x : ℕ) (o : Out A) → Meets W a (at + length bs) x o
          → Meets W a (at + length bs) (first_fault x (or_else (test a) (suc z) 0)) (tested (suc z) test at o)
      go s at zero o e = rw e (by s at (test a))
      go s at (suc x) (stop y q) m = m
      go s at (suc x) (next b q) m = absurd m

  -- ---- numbers

  pub faulty_up_to : (hi v : ℕ) → hi < 128 ^ groups → Wide W v → Faulty W (up_to hi) (encode v) v (or_else (leb v hi) 3 0)
  unfolding up_to
  faulty_up_to hi v f w = record { run = λ s at t l h. go s at t h (lt_or_ge hi v) }
    where
      above : (s : List ℕ) (at : ℕ) (t : List ℕ) → drop at s ≡ encode v ++ t → hi < v → (v < 128 ^ groups) ⊎ (128 ^ groups ≤ v)
          → Meets W v (at + length (encode v)) (or_else (leb v hi) 3 0) ((read_number s at hi))
      above s at t h l (inl small) = rw (lt-leb v hi l, read_above s t at hi v small l h) (inl (refl, lit≤ tt))
      above s at t h l (inr big) = rw (lt-leb v hi l, read_wide s t at hi v big h) (inr (refl, refl, w big))

      go : (s : List ℕ) (at : ℕ) (t : List ℕ) → drop at s ≡ encode v ++ t → (hi < v) ⊎ (v ≤ hi)
          → Meets W v (at + length (encode v)) (or_else (leb v hi) 3 0) ((read_number s at hi))
      go s at t h (inl l) = above s at t h l (lt_or_ge v (128 ^ groups))
      go s at t h (inr l) = rw (le-leb v hi l, read_at s t at hi v (omega arith) l h)

  pub faulty_within : (lo hi v : ℕ) → hi < 128 ^ groups → Wide W v → Faulty W (within lo hi) (encode v) v (or_else (between lo hi v) 3 0)
  unfolding within
  faulty_within lo hi v f w = faulty_as (both (leb lo v) (leb v hi)) (faulty_unless 2 (lit≤ tt) _ (faulty_up_to hi v f w))
    where
      both : (x y : Bool) → first_fault (or_else y 3 0) (or_else x 3 0) ≡ or_else (x && y) 3 0
      both true true = refl
      both true false = refl
      both false true = refl
      both false false = refl

  pub faulty_below : (b v : ℕ) → 0 < b → b ≤ 128 ^ groups → Wide W v → Faulty W (below b) (encode v) v (or_else (ltb v b) 3 0)
  unfolding below
  faulty_below b v p f w = faulty_as (ap (λ (t : Bool). or_else t 3 0) (below_is (lt_or_ge v b))) (faulty_up_to (b - 1) v (omega arith) w)
    where
      below_is : (v < b) ⊎ (b ≤ v) → leb v (b - 1) ≡ ltb v b
      below_is (inl l) = let m : v ≤ b - 1 = omega arith in rw (le-leb v (b - 1) m, lt-ltb v b l)
      below_is (inr l) = let m : b - 1 < v = omega arith in rw (lt-leb v (b - 1) m, le-ltb v b l)

  pub faulty_under : (b v : ℕ) → b < 128 ^ groups → Wide W v → Faulty W (under b) (encode v) v (or_else (ltb v b) 3 0)
  unfolding under
  faulty_under b v f w = faulty_as (under_is (lt_or_ge v b)) (faulty_unless 2 (lit≤ tt) _ (faulty_up_to b v f w))
    where
      under_is : (v < b) ⊎ (b ≤ v) → first_fault (or_else (leb v b) 3 0) (or_else (ltb v b) 3 0) ≡ or_else (ltb v b) 3 0
      under_is (inl l) = let m : v ≤ b = omega arith in rw (le-leb v b m, lt-ltb v b l)
      under_is (inr l) = rw (le-ltb v b l) (either (leb v b))
        where
          either : (t : Bool) → first_fault (or_else t 3 0) 3 ≡ 3
          either true = refl
          either false = refl

  -- ---- repeated reading, each time by what was read before

  pub faulty_turns : {A : Type 0} (r : List A → Reader A) (enc : A → List ℕ) (flaw : List A → A → ℕ) (before xs : List A) → Steps W r enc flaw before xs
      → Faulty W (turns (length xs) (λ as'. another (r as') as') before) (each enc xs) (before ++ xs) (along flaw before xs)
  unfolding turns each
  faulty_turns r enc flaw before [] h = rw (append-nil before) (faultless_read (reads_give before))
  faulty_turns r enc flaw before (x ∷ xs) h =
      let rest : Faulty W (turns (length xs) (λ as'. another (r as') as') (before ++ (x ∷ []))) (each enc xs) (before ++ (x ∷ xs)) (along flaw (before ++ (x ∷ [])) xs) =
      rw (append_assoc before (x ∷ []) xs) at (faulty_turns r enc flaw (before ++ (x ∷ [])) xs h.1) in
      faulty_bind _ (faulty_last _ h.0) (λ z. rest)

  pub faulty_times : {A : Type 0} (r : Reader A) (enc : A → List ℕ) (good : A → Bool) (xs : List A) → All (λ x. Faulty W r (enc x) x (or_else (good x) 3 0)) xs
      → Faulty W (times (length xs) r) (each enc xs) xs (or_else (every good xs) 3 0)
  unfolding times every
  faulty_times {A} r enc good xs h = faulty_as (flaws [] xs) (faulty_turns (λ _. r) enc (λ _ x. or_else (good x) 3 0) [] xs (steps [] xs h))
    where
      steps : (before xs : List A) → All (λ x. Faulty W r (enc x) x (or_else (good x) 3 0)) xs → Steps W (λ _. r) enc (λ _ x. or_else (good x) 3 0) before xs
      steps before [] h = tt
      steps before (x ∷ xs) h = (h.0, steps (before ++ (x ∷ [])) xs h.1)

      flaws : (before xs : List A) → along (λ _ x. or_else (good x) 3 0) before xs ≡ or_else (every good xs) 3 0
      flaws before [] = refl
      flaws before (x ∷ xs) = rw (flaws (before ++ (x ∷ [])) xs) (two (good x) (every good xs))
