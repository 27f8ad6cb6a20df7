-- What the call on a record answers, by what reading it told.
-- Assumes nothing.
use Prim.Native.Nat.{ℕ}
use mathlib.Core.Path.{◌≡◌, sym, ap, ◌∙◌}
use mathlib.Core.List.{List}
use Rattle.number.specs.Reader.{Out, number_of, refused}
use Rattle.number.specs.declared.Refusal.{Refusal}
use Rattle.model.specs.Case.{Case}
use Rattle.model.specs.Record.{read}
use Rattle.model.specs.Written.{record_of}
use Rattle.model.specs.Fault.{fault}
use Rattle.model.specs.Answers.{refusal, put, put_out}
use Rattle.model.proofs.Faultless.{faultless}
use Rattle.case.specs.declared.Case.{Case as Held}
use Rattle.case.specs.Held.{case_of, held}
use Rattle.reader.specs.declared.Reading.{Reading}
use Rattle.reader.proofs.Found.{Found, case_is}
use Rattle.least.proofs.Represented.{represented_is}
use Rattle.classes.specs.Representative.{representative, representative_out, representative_record}

module _ (s : List ℕ) (r : Reading) (f : Found s r) where
  pub found_good : fault (case_of r.case) ≡ 0
  found_good = ap fault (case_is f) ∙ faultless f.c f.fits

  pub represented : (d : Held) → d ≡ held (representative (case_of r.case)) → (buffer : List ℕ) (at : ℕ) → put (record_of (case_of d)) buffer at ≡ representative_record s buffer at
  unfolding representative_record
  represented d e buffer at =
      ap (λ (c : Case). put (record_of c) buffer at) (represented_is r.case d found_good e ∙ ap representative (case_is f))
      ∙ sym (ap (λ (o : Out Case). put_out (representative_out o) buffer at) f.is_read)

pub not-represented :
    (s : List ℕ) (e : Refusal) → read s ≡ refused e → (buffer : List ℕ) (at : ℕ)
    → representative_record s buffer at ≡ record { answer = refusal (number_of e.fault) e.place; buffer = buffer }
unfolding representative_record
not-represented s e h buffer at = rw h
