-- Each way through the functions that judge one record.
-- Assumes nothing.
use Rattle.std.proofs.Common.{◌≡◌, ℕ, ◌+◌, ◌-◌, ◌≤◌, false, eqb, List, length, take, drop, sym, refl, ap, ◌∙◌, subst, Result, Ok, Err, arith, length-drop, take_all, ne_eqb}
use Rattle.finite.proofs.All.{all_drop}
use Rattle.number.specs.Reader.{next, number_of as fault_number}
use Rattle.number.specs.declared.Fault.{Fault}
use Rattle.number.specs.declared.Fault.TheVariants.{Ends, Form, Range, Turn as Misplaced, Unprintable}
use Rattle.number.specs.declared.Refusal.{Refusal}
use Rattle.model.specs.Case.{Case}
use Rattle.model.specs.Rules.{PPCs, verdict}
use Rattle.model.specs.Record.{read}
use Rattle.laws.proofs.Exact.{refused-within}
use Rattle.laws.proofs.ExactCase.{refused as refused-law}
use Rattle.case.specs.Held.{case_of}
use Rattle.case.specs.Sound.{Sound}
use Rattle.reader.specs.declared.Reading.{Reading}
use Rattle.reader.specs.Answers.{ReadingOf}
use Rattle.reader.proofs.Bytes.{Octets, slice_bytes}
use Rattle.reader.proofs.Found.{Found, found, case_is, case-sound}
use Rattle.tally.specs.declared.Tally.{Tally}
use Rattle.tally.specs.declared.NotAdded.{NotAdded}
use Rattle.tally.specs.declared.NotAdded.TheVariants as not_added
use Rattle.tally.specs.Tally.{is_verdict, number_of, addition_left, adding}
use Rattle.log_model.proofs.RunLaws.{Further, further}
use Rattle.log_pieces.specs.declared.Verdict.{Verdict}
use Rattle.log_pieces.specs.declared.Stop.TheVariants.{Refused, Full}
use Rattle.log_pieces.specs.Shown.{Turn, judged_of, Judged, going_at, step_told, step_of, next_turn}

-- ---- one record

module _ (s : List ℕ) (b : Octets s) (r : Reading) (R : ReadingOf (read s) (Ok r)) where
  F : Found s r
  F = found s (slice_bytes s b) r R

  pub is-sound : Sound r.case
  is-sound = case-sound F

  pub was_judged : (v : Verdict) → (v.number ≡ verdict (case_of r.case) PPCs) × (v.length ≡ r.length) → Judged (read s) (Ok v)
  was_judged v h = record {
    c = F.c;
    is_read = F.is_read ∙ ap (next F.c) (sym h.1);
    number_is = h.0 ∙ ap (λ (c : Case). verdict c PPCs) (case_is F);
  }

-- the bytes from a place on
pub part-judged : (s : List ℕ) (from : ℕ) (r : Result Verdict Refusal) → Judged (read (take (length s - from) (drop from s))) r → Judged (read (drop from s)) r
part-judged s from r h = subst (λ (x : List ℕ). Judged (read x) r) (take_all (length s - from) (drop from s) (rw length-drop (omega arith))) h

-- ---- the step behind it

no_verdict : (f : Fault) → is_verdict (fault_number f) ≡ false
no_verdict Ends = refl
no_verdict Form = refl
no_verdict Range = refl
no_verdict Misplaced = refl
no_verdict Unprintable = refl

not_zero : (why : NotAdded) → eqb (number_of why) 0 ≡ false
not_zero not_added.NoVerdict = refl
not_zero not_added.Full = refl

module _ (s : List ℕ) (at : ℕ) (t : Tally) where
  module _ (e : Refusal) (h : Judged (read (drop at s)) (Err e)) where
    pub refused-next : ◌≡◌ {A = Turn} (record { step = step_told at (Err (Refused (record { fault = e.fault; place = at + e.place }))); tally = t }) (next_turn s (going_at at) t)
    unfolding next_turn judged_of step_of adding
    refused-next = rw (h, no_verdict e.fault)

    pub place-within : Octets s → at ≤ length s → at + e.place ≤ length s
    place-within b inside =
        let l : e.place ≤ length (drop at s) = refused-within (refused-law (drop at s) (all_drop _ at s (slice_bytes s b)) (fault_number e.fault) e.place h) in
        let l' : e.place ≤ length s - at = rw length-drop at l in
        omega arith

  module _ (v : Verdict) (A : Judged (read (drop at s)) (Ok v)) where
    F' : Further s at v.length
    F' = further s at A.c v.length A.is_read

    some : eqb v.length 0 ≡ false
    some = ne_eqb v.length 0 (λ z. omega (arith, F'.some))

    pub next-within : at + v.length ≤ length s
    next-within = F'.inside

    pub added_next : (u : Unit {0}) (now : Tally) → addition_left (Ok u) now ≡ adding t v.number
        → ◌≡◌ {A = Turn} (record { step = step_told at (Ok (at + v.length)); tally = now }) (next_turn s (going_at at) t)
    unfolding next_turn judged_of step_of
    added_next u now h = rw (A.is_read, ← A.number_is, ← h, some)

    pub full-next : (why : NotAdded) (now : Tally) → addition_left (Err why) now ≡ adding t v.number
        → ◌≡◌ {A = Turn} (record { step = step_told at (Err Full); tally = now }) (next_turn s (going_at at) t)
    unfolding next_turn judged_of step_of
    full-next why now h = rw (A.is_read, ← A.number_is, ← h, some, not_zero why)
