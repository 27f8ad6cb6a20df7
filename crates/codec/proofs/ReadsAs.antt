-- What is written is read back: the laws of every reader.
-- Assumes nothing.
use Prim.Native.Nat.{ℕ, ◌+◌, ◌-◌, ◌^◌, ◌≤◌, ◌<◌}
use native.Mathlib.Nat.{add_assoc, add-zero}
use native.Mathlib.Omega.{arith}
use mathlib.Core.Path.{◌≡◌, ap, ◌∙◌}
use mathlib.Core.Bool.{Bool, true}
use mathlib.Core.List.{List, [], ◌∷◌, ◌++◌, append_assoc, append-nil}
use lib.ListN.{length, drop, length-append, length-drop}
use borrow.Author.Tests.{le-leb, lt-ltb}
use Rattle.finite.specs.Lists.{each, All}
use Rattle.number.specs.Number.{encode, groups}
use Rattle.number.specs.Reader.{next, Reader, give, ◌>>=◌, unless, turns, another, times, up_to, within, below, under}
use Rattle.number.proofs.Laws.{read_at, past}

-- r reads the bytes bs as a, wherever they stand
pub record ReadsAs {A : Type 0} (r : Reader A) (bs : List ℕ) (a : A) : Type 0 where
  pub run : (s : List ℕ) (at : ℕ) (t : List ℕ) → at ≤ length s → drop at s ≡ bs ++ t → r s at ≡ next a (at + length bs)

pub reads_give : {A : Type 0} (a : A) → ReadsAs (give a) [] a
reads_give a = record { run = λ s at t b h. rw (add-zero at) }

pub reads_bind : {A B : Type 0} {r : Reader A} (f : A → Reader B) {bs bs' : List ℕ} {a : A} {b : B}
    → ReadsAs r bs a → ReadsAs (f a) bs' b → ReadsAs (r >>= f) (bs ++ bs') b
reads_bind f {bs} {bs'} p q = record {
  run = λ s at t b h.
      let h' : drop at s ≡ bs ++ (bs' ++ t) = h ∙ append_assoc bs bs' t in
      let b' : at + length bs ≤ length s = omega (arith, simp (length-drop, length-append) at (ap length h')) in
      simp (p.run s at (bs' ++ t) b h', q.run s (at + length bs) t b' (past s bs (bs' ++ t) at h'), length-append, add_assoc);
}

-- the last of a do block
pub reads_last : {A B : Type 0} {r : Reader A} (f : A → B) {bs : List ℕ} {a : A} → ReadsAs r bs a → ReadsAs (r >>= λ x. give (f x)) bs (f a)
reads_last f p = record { run = λ s at t b h. simp (p.run s at t b h) }

pub reads_unless : {A : Type 0} (x : ℕ) (test : A → Bool) {r : Reader A} {bs : List ℕ} {a : A} → ReadsAs r bs a → test a ≡ true → ReadsAs (unless x test r) bs a
unfolding unless
reads_unless x test p e = record { run = λ s at t b h. simp (p.run s at t b h, e) }

pub reads_up_to : (hi v : ℕ) → v ≤ hi → hi < 128 ^ groups → ReadsAs (up_to hi) (encode v) v
unfolding up_to
reads_up_to hi v l f = record { run = λ s at t b h. (read_at s t at hi v (omega arith) l h) }

pub reads_within : (lo hi v : ℕ) → lo ≤ v → v ≤ hi → hi < 128 ^ groups → ReadsAs (within lo hi) (encode v) v
unfolding within
reads_within lo hi v l h f = reads_unless 3 _ (reads_up_to hi v h f) (le-leb lo v l)

pub reads_below : (b v : ℕ) → v < b → b ≤ 128 ^ groups → ReadsAs (below b) (encode v) v
unfolding below
reads_below b v l f = reads_up_to (b - 1) v (omega arith) (omega arith)

pub reads_under : (b v : ℕ) → v < b → b < 128 ^ groups → ReadsAs (under b) (encode v) v
unfolding under
reads_under b v l f = reads_unless 3 _ (reads_up_to b v (omega arith) f) (lt-ltb v b l)

-- each of xs is read where it stands, by the reader that goes by those before it
abbrev pub Steps : {A : Type 0} → (List A → Reader A) → (A → List ℕ) → List A → List A → Type 0
Steps r enc before [] = Unit {0}
Steps r enc before (x ∷ xs) = ReadsAs (r before) (enc x) x × Steps r enc (before ++ (x ∷ [])) xs

pub reads_turns : {A : Type 0} (r : List A → Reader A) (enc : A → List ℕ) (before xs : List A) → Steps r enc before xs
    → ReadsAs (turns (length xs) (λ as'. another (r as') as') before) (each enc xs) (before ++ xs)
unfolding turns each
reads_turns r enc before [] h = rw (append-nil before) (reads_give before)
reads_turns r enc before (x ∷ xs) h =
    let rest : ReadsAs (turns (length xs) (λ as'. another (r as') as') (before ++ (x ∷ []))) (each enc xs) (before ++ (x ∷ xs)) =
    rw (append_assoc before (x ∷ []) xs) at (reads_turns r enc (before ++ (x ∷ [])) xs h.1) in
    reads_bind _ (reads_last _ h.0) rest

all-steps : {A : Type 0} (r : Reader A) (enc : A → List ℕ) (before xs : List A) → All (λ x. ReadsAs r (enc x) x) xs → Steps (λ _. r) enc before xs
all-steps r enc before [] h = tt
all-steps r enc before (x ∷ xs) h = (h.0, all-steps r enc (before ++ (x ∷ [])) xs h.1)

pub reads_times : {A : Type 0} (r : Reader A) (enc : A → List ℕ) (xs : List A) → All (λ x. ReadsAs r (enc x) x) xs → ReadsAs (times (length xs) r) (each enc xs) xs
unfolding times
reads_times r enc xs h = reads_turns (λ _. r) enc [] xs (all-steps r enc [] xs h)
