-- The ways through reading a name.
-- Assumes nothing.
use Prim.Native.Nat.{ℕ, ◌+◌, ◌-◌, ◌≤◌, ◌<◌}
use mathlib.Core.Path.{◌≡◌, refl, ap, sym, ◌∙◌}
use mathlib.Core.Bool.{Bool, true, false}
use mathlib.Core.List.{List, [], ◌∷◌, ◌++◌}
use native.Mathlib.Omega.{arith}
use native.Mathlib.Numerals.{add-one}
use lib.ListN.{length, get_or, set, take, drop, replicate, length-drop}
use lib.Seq.{take-suc, get_or-drop, length-take-le}
use borrow.Author.Tests.{le-leb, lt-leb}
use Rattle.finite.specs.Lists.{every}
use Rattle.model.specs.Limits.{most_name}
use Rattle.model.specs.Case.{printable}
use Rattle.model.specs.Record.{bytes, text}
use Rattle.laws.proofs.Names.{bad_at, printable-more}
use Rattle.case.specs.Held.{pad}
use Rattle.number.specs.Reader.{stop}
use Rattle.reader.specs.Answers.{Done, Padded}
use Rattle.case.proofs.Pad.{pad-set}

module _ (s : List ℕ) (at i : ℕ) where
  pub name-short : length s < at + i → text i s at ≡ stop 1 at
  unfolding text bytes
  name-short h = rw (lt-leb (at + i) (length s) h)

  -- j bytes of the name are stored
  pub record Naming (array : List ℕ) (j : ℕ) : Type 0 where
    pub stored : array ≡ pad most_name (take j (drop at s))
    pub printed : every printable (take j (drop at s)) ≡ true
    pub few : j ≤ i
    pub there : at + i ≤ length s
    pub small : i ≤ most_name

  pub naming_begun : (array : List ℕ) → array ≡ replicate most_name 0 → at ≤ length s → i ≤ length s - at → i ≤ most_name → Naming array 0
  unfolding pad every
  naming_begun array z a l b = record { stored = z; printed = refl; few = omega arith; there = omega arith; small = b }

  module _ (array : List ℕ) (j : ℕ) (h : Naming array j) where
    pub naming_all : i ≤ j → Done (Padded most_name array) (text i s at) (at + i)
    unfolding text bytes
    naming_all l =
        let z : j ≡ i = omega (arith, h.few) in
        let size : length (take i (drop at s)) ≡ i = length-take-le i (drop at s) (simp length-drop (omega (arith, h.there))) in
        record {
          what = take i (drop at s);
          is = rw (le-leb (at + i) (length s) h.there, rw z at h.printed);
          stored = record { stored = rw z at h.stored; long = omega (arith, h.small) };
        }

    module _ (l : j < i) (b : ℕ) (eb : b ≡ get_or s (at + j) 0) (t : Bool) (et : t ≡ printable b) where
      in_rest : j < length (drop at s)
      in_rest = simp length-drop (omega (arith, h.there))

      byte : get_or (drop at s) j 0 ≡ b
      byte = get_or-drop at s j 0 ∙ sym eb

      pub naming_bad : t ≡ false → text i s at ≡ stop 23 (at + j)
      unfolding text bytes
      naming_bad n =
          let bad : printable (get_or (drop at s) j 0) ≡ false = ap printable byte ∙ sym et ∙ n in
          let first = bad_at (drop at s) j i l in_rest h.printed bad in
          rw (le-leb (at + i) (length s) h.there, first.0, first.1)

      pub naming_next : t ≡ true → Naming (set array j b) (j + 1)
      naming_next n =
          let size : length (take j (drop at s)) ≡ j = length-take-le j (drop at s) (omega (arith, in_rest)) in
          let one : take (j + 1) (drop at s) ≡ take j (drop at s) ++ (b ∷ []) =
          rw add-one (take-suc (drop at s) j 0 in_rest ∙ rw byte) in
          record {
            stored = rw (h.stored, one) (pad-set most_name (take j (drop at s)) j b size (omega (arith, h.small)));
            printed = rw one (printable-more (take j (drop at s)) b h.printed (sym et ∙ n));
            few = omega arith;
            there = h.there;
            small = h.small;
          }
