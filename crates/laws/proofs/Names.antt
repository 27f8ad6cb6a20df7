-- Laws of a name's bytes: that they are read back, and which of them is the first that is not printable.
-- Assumes nothing.
use Prim.Native.Nat.{ℕ, zero, suc, ◌≤◌, ◌<◌, ◌+◌}
use native.Mathlib.Nat.{not-suc-le-zero, le_of_suc-le-suc}
use native.Mathlib.Omega.{arith}
use mathlib.Core.Path.{◌≡◌, refl, ap}
use mathlib.Core.Bool.{Bool, true, false, true≢false}
use mathlib.Core.List.{List, [], ◌∷◌, ◌++◌}
use lib.Dec.{leb}
use lib.ListN.{length, get_or, take, length-append, length-drop}
use lib.Seq.{take_at}
use borrow.Author.Tests.{leb-true, le-leb}
use Rattle.finite.specs.Lists.{every}
use Rattle.finite.proofs.Tests.{and_l, and_r, and_i}
use Rattle.number.specs.Number.{Bytes}
use Rattle.codec.proofs.ReadsAs.{ReadsAs}
use Rattle.model.specs.Limits.{least_printable, most_printable}
use Rattle.model.specs.Case.{printable}
use Rattle.model.specs.Record.{printable_front, bytes}

pub printable-bytes : (l : List ℕ) → every printable l ≡ true → Bytes l
unfolding every printable
printable-bytes [] e = tt
printable-bytes (b ∷ l) e =
    let here : printable b ≡ true = and_l (printable b) (every printable l) e in
    let most : b ≤ most_printable = leb-true b most_printable (and_r (leb least_printable b) (leb b most_printable) here) in
    (omega arith, printable-bytes l (and_r (printable b) (every printable l) e))

-- the byte behind the printable front
pub record FirstBad (l : List ℕ) : Type 0 where
  pub within : printable_front l < length l
  pub byte : printable (get_or l (printable_front l) 0) ≡ false

pub first_bad : (l : List ℕ) → every printable l ≡ false → FirstBad l
unfolding every printable_front
first_bad [] e = absurd (true≢false e)
first_bad (b ∷ l) e = go (printable b) refl (first_bad l)
  where
    go : (x : Bool) → printable b ≡ x → (every printable l ≡ false → FirstBad l) → FirstBad (b ∷ l)
    go true p rest =
        let more = rest (rw p at e) in
        record { within = rw p (omega (arith, more.within)); byte = rw p more.byte }
    go false p rest = record { within = rw p (omega arith); byte = rw p p }

-- where j bytes are printable and the next one is not, that one is the first bad one among any i bytes that hold it
pub bad_at : (l : List ℕ) (j i : ℕ) → j < i → j < length l → every printable (take j l) ≡ true → printable (get_or l j 0) ≡ false
    → (every printable (take i l) ≡ false) × (printable_front (take i l) ≡ j)
unfolding every printable_front
bad_at [] j i a h e b = absurd (not-suc-le-zero h)
bad_at (x ∷ l) j zero a h e b = absurd (not-suc-le-zero a)
bad_at (x ∷ l) zero (suc i) a h e b = (rw b, rw b)
bad_at (x ∷ l) (suc j) (suc i) a h e b =
    let here : printable x ≡ true = and_l (printable x) (every printable (take j l)) e in
    let rest = bad_at l j i (le_of_suc-le-suc a) (le_of_suc-le-suc h) (and_r (printable x) (every printable (take j l)) e) b in
    (rw here rest.0, rw here (ap suc rest.1))

-- one more printable byte
pub printable-more : (l : List ℕ) (b : ℕ) → every printable l ≡ true → printable b ≡ true → every printable (l ++ (b ∷ [])) ≡ true
unfolding every
printable-more [] b e h = rw h
printable-more (x ∷ l) b e h =
    and_i (printable x) (every printable (l ++ (b ∷ []))) (and_l (printable x) (every printable l) e) (printable-more l b (and_r (printable x) (every printable l) e) h)

-- as many bytes as there are of them are read as they stand
pub reads_bytes : (l : List ℕ) → ReadsAs (bytes (length l)) l l
unfolding bytes
reads_bytes l = record {
  run = λ s at t b h.
      let fits : at + length l ≤ length s = omega (arith, simp (length-drop, length-append) at (ap length h)) in
      rw (le-leb (at + length l) (length s) fits, h, take_at l t (length l) refl);
}
