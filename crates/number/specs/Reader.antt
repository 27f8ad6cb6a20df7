-- Readers of a list of bytes from a place on.
-- Assumes nothing.
use Rattle.std.specs.Prelude.{ℕ, zero, suc, ◌-◌, Bool, cond, List, [], ◌∷◌, ◌++◌, leb, ltb, Result, Ok, Err}
use Rattle.number.specs.Number.{read_number}
pub use Rattle.number.specs.Number.{Out, stop, next}
use Rattle.number.specs.declared.Refusal.{Refusal}
use Rattle.number.specs.declared.Fault.{Fault}
use Rattle.number.specs.declared.Fault.TheVariants.{Ends, Form, Range, Turn, Unprintable}

-- all the bytes, and the place to read at
abbrev pub Reader : Type 0 → Type 0
Reader A = List ℕ → ℕ → Out A

abbrev pub give : {A : Type 0} → A → Reader A
give a s at = next a at

abbrev pub onward : {A B : Type 0} → (A → ℕ → Out B) → Out A → Out B
onward f (stop x p) = stop x p
onward f (next a p) = f a p

infixl 10 ◌>>=◌
abbrev pub ◌>>=◌ : {A B : Type 0} → Reader A → (A → Reader B) → Reader B
◌>>=◌ r f s at = onward (λ a p. f a s p) (r s at)

abbrev pub tested : {A : Type 0} → ℕ → (A → Bool) → ℕ → Out A → Out A
tested x test at (stop y p) = stop y p
tested x test at (next a p) = cond (test a) (next a p) (stop x at)

-- r, refused with x at the place where it began unless what it read passes the test
unfoldable pub unless : {A : Type 0} → ℕ → (A → Bool) → Reader A → Reader A
unless x test r s at = tested x test at (r s at)

-- f run i times, each time on what the last one gave
unfoldable pub turns : {A : Type 0} → ℕ → (A → Reader A) → A → Reader A
turns zero f a = give a
turns (suc i) f a = do
  b ← f a
  turns i f b

-- one more of r behind those read
abbrev pub another : {A : Type 0} → Reader A → List A → Reader (List A)
another r as' = do
  a ← r
  give (as' ++ (a ∷ []))

unfoldable pub times : {A : Type 0} → ℕ → Reader A → Reader (List A)
times i r = turns i (another r) []

-- 01: the number of a refusal
abbrev pub number_of : Fault → ℕ
number_of Ends = 1
number_of Form = 2
number_of Range = 3
number_of Turn = 4
number_of Unprintable = 23

abbrev pub refused : {A : Type 0} → Refusal → Out A
refused e = stop (number_of e.fault) e.place

-- what the code answers, as a reader does: what was read, in the model's terms by f, and the next place, or a refusal
abbrev pub outcome_by : {A B : Type 0} → (A → B) → Result (A × ℕ) Refusal → Out B
outcome_by f (Ok r) = next (f r.0) r.1
outcome_by f (Err e) = refused e

abbrev pub outcome : {A : Type 0} → Result (A × ℕ) Refusal → Out A
outcome r = outcome_by (λ a. a) r

-- a number from 0 to hi
unfoldable pub up_to : ℕ → Reader ℕ
up_to hi s at = read_number s at hi

-- a number from lo to hi
unfoldable pub within : ℕ → ℕ → Reader ℕ
within lo hi = unless 3 (λ v. leb lo v) (up_to hi)

-- a number below b, where b is above 0
unfoldable pub below : ℕ → Reader ℕ
below b = up_to (b - 1)

-- a number below b, which may be 0: then there is none
unfoldable pub under : ℕ → Reader ℕ
under b = unless 3 (λ v. ltb v b) (up_to b)
