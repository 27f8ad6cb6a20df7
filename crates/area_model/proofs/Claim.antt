-- The claim over every list of appends and repairs, each cut anywhere or not (02 (v)).
-- Assumes nothing.
use Prim.Native.Nat.{ℕ, zero, suc, ◌+◌}
use mathlib.Core.Path.{◌≡◌, refl, sym, ap, ◌∙◌}
use mathlib.Core.Bool.{Bool, true, false}
use mathlib.Core.List.{List, [], ◌∷◌, ◌++◌, append_assoc, append-nil}
use lib.Dec.{eqb}
use lib.ListN.{length, take, drop, length-replicate}
use lib.Seq.{length-take-le}
use borrow.Author.Tests.{eqb-true, eqb-false, ne_eqb}
use Rattle.finite.specs.Lists.{All}
use Rattle.number.specs.Reader.{Out, stop, next}
use Rattle.model.specs.Case.{Case}
use Rattle.model.specs.Record.{read}
use Rattle.model.specs.Answers.{Stored, refusal}
use Rattle.laws.proofs.ExtentCase.{Accepted, accepted}
use Rattle.log_model.specs.Log.{no_fault}
use Rattle.area_model.specs.Area.{Frame, none, finished, frame_of, Found, ends_at, following, found_by, found_from, found, refuse, append, repair}
use Rattle.area_model.specs.Changes.{Change, appends, repairs, change, flagged, flag_stored, area_after, flags_stored}
use Rattle.area_model.specs.Claim.{blank, Faultless, OneRecord, Survives, AreaClaim}
use Rattle.area_model.proofs.Frames.{found-over, frame_reads}
use Rattle.area_model.proofs.Survival.{unused-over, Step, step_same, step-sound, repair_stays}
use Rattle.area_model.proofs.Refusals.{fault-answered}
use Rattle.area_model.proofs.Room.{blank-unused}

-- ---- every record that is found can be read

one_record : (s : List ℕ) (c : Case) (i : ℕ) → read s ≡ next c i → OneRecord (take i s)
one_record s c i e =
    let A : Accepted s c i = accepted s c i e in
    record { case = c; whole = ap read (sym (append-nil (take i s))) ∙ A.front [] ∙ ap (next c) (sym (length-take-le i s A.inside)) }

readable_by : (j place : ℕ) (s : List ℕ) → All OneRecord (found_by j place s).records
unfolding found_by
readable_by zero place s = tt
readable_by (suc j) place s = go (frame_of place s) refl (λ i. readable_by j (place + i) (drop i s))
  where
    go : (f : Frame) → frame_of place s ≡ f → ((i : ℕ) → All OneRecord (found_by j (place + i) (drop i s)).records)
        → All OneRecord (following place s (λ i. found_by j (place + i) (drop i s)) f).records
    go (none e) p ih = tt
    go (finished i) p ih = (let R = frame_reads place s i p in one_record (drop 1 s) R.case i R.reads, ih (suc i))

pub found-readable : (area : List ℕ) → All OneRecord (found area).records
unfolding found_from
found-readable area = readable_by (length area) 0 area

-- ---- one change of an area in any state

none-flagged : (x : Change) (number place : ℕ) → (number ≡ 0 → ⊥) → flag_stored x (refusal number place) ≡ []
none-flagged (appends bytes n) number place f = go (read bytes)
  where
    go : (o : Out Case) → flagged bytes (refusal number place) o ≡ []
    go (stop x p) = refl
    go (next c i) = rw (ne_eqb number 0 f)
none-flagged (repairs n) number place f = refl

module _ (area : List ℕ) where
  -- a log without fault, or with one
  by_fault : {P : Type 0} → (Faultless area → P) → ((Faultless area → ⊥) → P) → P
  by_fault {P} f g = go (eqb (found area).ending.number 0) refl
    where
      go : (y : Bool) → eqb (found area).ending.number 0 ≡ y → P
      go true e = f (eqb-true (found area).ending.number 0 e)
      go false e = g (eqb-false (found area).ending.number 0 e)

  step : (x : Change) → Step area (change x area) (flag_stored x (change x area).answer)
  step x = by_fault (λ z. step-sound area z x) (λ f.
      rw (fault-answered area x f, none-flagged x (found area).ending.number (found area).ending.place f)
      (step_same area (refuse (found area).ending.number (found area).ending.place area) refl refl))

  -- 02 (v): "Found afterwards: all earlier records, and the new one exactly if its flag was stored"
  pub append-found : (bytes : List ℕ) (n : ℕ) → (found (append area bytes n).buffer).records ≡ (found area).records ++ flagged bytes (append area bytes n).answer (read bytes)
  append-found bytes n = (step (appends bytes n)).records

  -- a repair "may be cut .., losing no finished frame"
  pub repair-found : (n : ℕ) → found (repair area n).buffer ≡ found area
  repair-found n = by_fault (λ z. repair_stays area z n) (λ f. ap (λ (s : Stored). found s.buffer) (fault-answered area (repairs n) f))

-- ---- any list of changes

pub survives : (area : List ℕ) (xs : List Change) → Survives area xs
unfolding area_after flags_stored
survives area [] = record { records = sym (append-nil (found area).records); ending = refl; long = refl }
survives area (x ∷ xs) =
    let s = step area x in
    let ih = survives (change x area).buffer xs in
    record {
      records = ih.records ∙ ap (λ (rs : List (List ℕ)). rs ++ flags_stored (change x area).buffer xs) s.records
          ∙ append_assoc (found area).records (flag_stored x (change x area).answer) (flags_stored (change x area).buffer xs);
      ending = ih.ending ∙ s.ending;
      long = ih.long ∙ s.long;
    }

-- from an area of all `FF` on
pub area_claim : (size : ℕ) (xs : List Change) → AreaClaim size xs
area_claim size xs =
    let none : found (blank size) ≡ ends_at 0 no_fault = found-over 0 (blank size) (unused-over (blank size) (blank-unused size)) in
    let kept : Survives (blank size) xs = survives (blank size) xs in
    record {
      records = kept.records ∙ ap (λ (f : Found). f.records ++ flags_stored (blank size) xs) none;
      ending = kept.ending ∙ ap (λ (f : Found). f.ending) none;
      readable = found-readable (area_after (blank size) xs);
      long = kept.long ∙ length-replicate size _;
    }
