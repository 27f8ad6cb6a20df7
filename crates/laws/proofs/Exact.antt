-- What a record is refused with, and the reading of a name.
-- Assumes nothing.
use Prim.Native.Nat.{ℕ, ◌+◌, ◌-◌, ◌≤◌, ◌<◌}
use native.Mathlib.Omega.{arith}
use mathlib.Core.Path.{◌≡◌, refl, sym, ap, ◌∙◌}
use mathlib.Core.Bool.{Bool, true, false, cond}
use mathlib.Core.Logic.{◌⊎◌, inl, inr, ⊎_elim}
use mathlib.Core.List.{List, ◌++◌}
use lib.Dec.{leb, lit≤}
use lib.ListN.{length, take, drop, get_or, length-append, length-drop, take-append-drop, get_or-append}
use lib.Seq.{length-take-le, drop-drop, get_or-drop}
use borrow.Author.Tests.{leb-true}
use Rattle.finite.specs.Lists.{every}
use Rattle.number.specs.Reader.{Out, stop, next}
use Rattle.codec.proofs.Exact.{Malformed, other_than_2, Tells, Outcome, Exact, As}
use Rattle.model.specs.Case.{printable}
use Rattle.model.specs.Record.{bytes, printable_front, printed, text}
use Rattle.laws.proofs.Names.{FirstBad, first_bad}

-- a byte of the name is at fault
pub record Unprintable (s : List ℕ) (x p : ℕ) : Type 0 where
  pub number : x ≡ 23
  pub within : p < length s
  pub byte : printable (get_or s p 0) ≡ false

-- reading was refused
abbrev pub Refused : List ℕ → (x p : ℕ) → Type 0
Refused s x p = Malformed s x p ⊎ Unprintable s x p

-- what is malformed is told
pub told : Tells Refused
told s x p m = inl m

pub refused-least : {s : List ℕ} {x p : ℕ} → Refused s x p → 1 ≤ x
refused-least r = ⊎_elim (λ m. m.least) (λ u. omega (arith, u.number)) r

pub refused-within : {s : List ℕ} {x p : ℕ} → Refused s x p → p ≤ length s
refused-within r = ⊎_elim (λ m. m.within) (λ u. omega (arith, u.within)) r

exact_bytes : (i : ℕ) → Exact Refused (bytes i) (As (λ l. l) (λ l. length l ≡ i))
unfolding bytes
exact_bytes i = record { run = λ s at h l. go s at l (leb (at + i) (length s)) refl }
  where
    go : (s : List ℕ) (at : ℕ) → at ≤ length s → (y : Bool) → leb (at + i) (length s) ≡ y
        → Outcome Refused (As (λ l. l) (λ l. length l ≡ i)) s at (cond y (next (take i (drop at s)) (at + i)) (stop 1 at))
    go s at l false k = inl (other_than_2 1 (lit≤ tt) (lit≤ tt) (λ e. omega arith) l)
    go s at l true k =
        let fits : at + i ≤ length s = leb-true (at + i) (length s) k in
        let size : length (take i (drop at s)) ≡ i = length-take-le i (drop at s) (rw length-drop (omega arith)) in
        record {
          bs = take i (drop at s);
          whole = sym (take-append-drop i (drop at s)) ∙ rw (drop-drop i at s);
          place = rw size;
          holds = record { same = refl; fits = size };
        }

-- the bytes w stand from the place on, and their first bad one is no byte of a name
unprintable : (s : List ℕ) (at : ℕ) (w rest : List ℕ) → at ≤ length s → drop at s ≡ w ++ rest → every printable w ≡ false
    → Unprintable s 23 (at + printable_front w)
unprintable s at w rest l e bad =
    let F : FirstBad w = first_bad w bad in
    let sizes : length s - at ≡ length w + length rest = simp (length-drop, length-append) at (ap length e) in
    let there : get_or w (printable_front w) 0 ≡ get_or s (at + printable_front w) 0 =
    sym (get_or-append w rest 0 (printable_front w) F.within) ∙ ap (λ (t : List ℕ). get_or t (printable_front w) 0) (sym e) ∙ get_or-drop at s (printable_front w) 0 in
    record { number = refl; within = omega (arith, F.within); byte = rw (← there) F.byte }

pub exact_text : (i : ℕ) → Exact Refused (text i) (As (λ l. l) (λ l. (length l ≡ i) × (every printable l ≡ true)))
unfolding text
exact_text i = record { run = λ s at h l. go s at l (bytes i s at) ((exact_bytes i).run s at h l) }
  where
    go : (s : List ℕ) (at : ℕ) → at ≤ length s → (o : Out (List ℕ)) → Outcome Refused (As (λ l. l) (λ l. length l ≡ i)) s at o
        → Outcome Refused (As (λ l. l) (λ l. (length l ≡ i) × (every printable l ≡ true))) s at (printed at o)
    go s at l (stop x p) G = G
    go s at l (next w p) G = by (every printable w) refl
      where
        by : (y : Bool) → every printable w ≡ y
            → Outcome Refused (As (λ l. l) (λ l. (length l ≡ i) × (every printable l ≡ true))) s at (cond y (next w p) (stop 23 (at + printable_front w)))
        by true e = record { bs = G.bs; whole = G.whole; place = G.place; holds = record { same = G.holds.same; fits = (G.holds.fits, e) } }
        by false e = inr (unprintable s at w (drop p s) l (rw G.holds.same at G.whole) e)
