-- Facts of each element of a list, and of its number.
-- Assumes nothing.
use Prim.Native.Nat.{ℕ, zero, suc, ◌+◌, ◌<◌}
use native.Mathlib.Nat.{add-zero, not-suc-le-zero, le_of_suc-le-suc}
use native.Mathlib.Omega.{arith}
use mathlib.Core.Path.{◌≡◌, refl, subst}
use mathlib.Core.Bool.{Bool, true}
use mathlib.Core.List.{List, [], ◌∷◌, ◌++◌, map}
use lib.ListN.{length, get_or, drop}
use Rattle.finite.specs.Lists.{table, every, All, AllFrom}
use Rattle.finite.proofs.Tests.{and_l, and_r, and_i}

pub all_make : {A : Type 0} (P : A → Type 0) → ((a : A) → P a) → (l : List A) → All P l
all_make P f [] = tt
all_make P f (a ∷ l) = (f a, all_make P f l)

pub all_map : {A : Type 0} (P Q : A → Type 0) → ((a : A) → P a → Q a) → (l : List A) → All P l → All Q l
all_map P Q f [] h = tt
all_map P Q f (a ∷ l) h = (f a h.0, all_map P Q f l h.1)

pub all_mapped : {A B : Type 0} (P : A → Type 0) (Q : B → Type 0) (f : A → B) → ((a : A) → P a → Q (f a)) → (l : List A) → All P l → All Q (map f l)
all_mapped P Q f g [] h = tt
all_mapped P Q f g (a ∷ l) h = (g a h.0, all_mapped P Q f g l h.1)

pub all_drop : {A : Type 0} (P : A → Type 0) (n : ℕ) (s : List A) → All P s → All P (drop n s)
all_drop P zero s h = h
all_drop P (suc n) [] h = h
all_drop P (suc n) (a ∷ s) h = all_drop P n s h.1

pub all_append : {A : Type 0} (P : A → Type 0) (s t : List A) → All P s → All P t → All P (s ++ t)
all_append P [] t h l = l
all_append P (a ∷ s) t h l = (h.0, all_append P s t h.1 l)

pub all-front : {A : Type 0} (P : A → Type 0) (s t : List A) → All P (s ++ t) → All P s
all-front P [] t h = tt
all-front P (a ∷ s) t h = (h.0, all-front P s t h.1)

pub all_back : {A : Type 0} (P : A → Type 0) (s t : List A) → All P (s ++ t) → All P t
all_back P [] t h = h
all_back P (a ∷ s) t h = all_back P s t h.1

pub every_make : {A : Type 0} (P : A → Type 0) (f : A → Bool) → ((a : A) → P a → f a ≡ true) → (l : List A) → All P l → every f l ≡ true
unfolding every
every_make P f h [] p = refl
every_make P f h (a ∷ l) p = and_i (f a) (every f l) (h a p.0) (every_make P f h l p.1)

pub every_get : {A : Type 0} (f : A → Bool) (l : List A) → every f l ≡ true → All (λ a. f a ≡ true) l
unfolding every
every_get f [] e = tt
every_get f (a ∷ l) e = (and_l (f a) (every f l) e, every_get f l (and_r (f a) (every f l) e))

-- what holds where three others do
pub all_three : {A : Type 0} (P Q R S : A → Type 0) → ((a : A) → P a → Q a → R a → S a) → (l : List A) → All P l → All Q l → All R l → All S l
all_three P Q R S f [] p q r = tt
all_three P Q R S f (a ∷ l) p q r = (f a p.0 q.0 r.0, all_three P Q R S f l p.1 q.1 r.1)

pub from_map : {A : Type 0} (P Q : ℕ → A → Type 0) → ((i : ℕ) (a : A) → P i a → Q i a) → (i : ℕ) (l : List A) → AllFrom P i l → AllFrom Q i l
from_map P Q f i [] h = tt
from_map P Q f i (a ∷ l) h = (f i a h.0, from_map P Q f (suc i) l h.1)

-- the element at a place, and a table
module _ {A : Type 0} (P : A → Type 0) where
  pub all_at : (l : List A) → All P l → (i : ℕ) (d : A) → i < length l → P (get_or l i d)
  all_at [] h i d l = absurd (not-suc-le-zero l)
  all_at (a ∷ as') h zero d l = h.0
  all_at (a ∷ as') h (suc i) d l = all_at as' h.1 i d (le_of_suc-le-suc l)

  -- what holds at every place
  pub all_places : (l : List A) (d : A) → ((i : ℕ) → i < length l → P (get_or l i d)) → All P l
  all_places [] d f = tt
  all_places (a ∷ as') d f = (f 0 (omega arith), all_places as' d (λ i h. f (suc i) (omega arith)))

  pub all-table : (i j : ℕ) (f : ℕ → A) → ((y : ℕ) → y < i + j → P (f y)) → All P (table i j f)
  unfolding table
  all-table i zero f h = tt
  all-table i (suc j) f h = (h i (omega arith), all-table (suc i) j f (λ y l. h y (omega arith)))

-- the same by their numbers
module _ {A : Type 0} (P : ℕ → A → Type 0) where
  pub from_at : (x : ℕ) (l : List A) → AllFrom P x l → (i : ℕ) (d : A) → i < length l → P (x + i) (get_or l i d)
  from_at x [] h i d l = absurd (not-suc-le-zero l)
  from_at x (a ∷ as') h zero d l = rw add-zero h.0
  from_at x (a ∷ as') h (suc i) d l =
      subst (λ (y : ℕ). P y (get_or as' i d)) (omega arith) (from_at (suc x) as' h.1 i d (le_of_suc-le-suc l))

  pub from_table : (x j : ℕ) (f : ℕ → A) → ((y : ℕ) → y < x + j → P y (f y)) → AllFrom P x (table x j f)
  unfolding table
  from_table x zero f h = tt
  from_table x (suc j) f h = (h x (omega arith), from_table (suc x) j f (λ y l. h y (omega arith)))
