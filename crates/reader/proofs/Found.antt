-- What a reading of the code says: the case that the model reads, or its refusal.
-- Assumes nothing.
use Prim.Native.Nat.{ℕ, ◌≤◌}
use native.Mathlib.Omega.{arith}
use mathlib.Core.Path.{◌≡◌, sym, ap, ◌∙◌, subst}
use mathlib.Core.List.{List}
use lib.ListN.{length, drop, length-append}
use Rattle.number.specs.Reader.{next}
use Rattle.number.specs.Number.{Bytes}
use Rattle.model.specs.Case.{Case}
use Rattle.model.specs.Record.{read}
use Rattle.model.specs.Written.{record_of}
use Rattle.model.specs.Fits.{Fits}
use Rattle.laws.proofs.ExactCase.{Readable, readable}
use Rattle.case.specs.Held.{case_of, held}
use Rattle.case.specs.Sound.{Sound}
use Rattle.case.proofs.HeldBack.{fits_back}
use Rattle.case.proofs.Shape.{held-sound}
use Rattle.reader.specs.declared.Reading.{Reading}
use Rattle.reader.specs.Answers.{Read}

pub record Found (s : List ℕ) (r : Reading) : Type 0 where
  pub c : Case
  pub is_read : read s ≡ next c r.length
  pub holds : r.case ≡ held c
  pub fits : Fits c

-- a record lies within the bytes that it is read from
pub read_within : (s : List ℕ) → Bytes s → (c : Case) (i : ℕ) → read s ≡ next c i → i ≤ length s
read_within s b c i e =
    let R : Readable s c i = readable s b c i e in
    omega (arith, R.length, length-append (record_of c) (drop i s), ap length R.whole)

-- the struct means the case
module _ {s : List ℕ} {r : Reading} (f : Found s r) where
  pub case_is : case_of r.case ≡ f.c
  case_is = ap case_of f.holds ∙ fits_back f.c f.fits

  pub case-sound : Sound r.case
  case-sound = subst Sound (sym f.holds) (held-sound f.c f.fits)

pub found : (s : List ℕ) → Bytes s → (r : Reading) → Read (read s) r → Found s r
found s b r h = record { c = h.c; is_read = h.is_read; holds = h.holds; fits = (readable s b h.c r.length h.is_read).fits }
