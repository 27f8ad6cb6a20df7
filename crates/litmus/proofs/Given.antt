-- What the answers are, by what the calls inside told.
-- Assumes nothing.
use Prim.Native.Nat.{ℕ, zero, suc}
use mathlib.Core.Path.{◌≡◌, refl, sym, ap, ◌∙◌, subst}
use mathlib.Core.Bool.{Bool, true, false, cond}
use mathlib.Core.List.{List}
use lib.Dec.{T, eqb}
use borrow.Author.Tests.{ne_eqb}
use lib.ListN.{length, replicate, length-replicate}
use Rattle.finite.proofs.Tests.{true-T, and_left, and_right}
use native.Mathlib.Omega.{arith}
use Rattle.std.proofs.Common.{Ok, Err}
use Rattle.number.specs.Reader.{Out, stop, next, number_of}
use Rattle.number.specs.declared.Fault as a_fault
use Rattle.number.specs.declared.Fault.TheVariants.{Ends, Form, Range, Turn, Unprintable}
use Rattle.number.specs.declared.Refusal.{Refusal}
use Rattle.permutation.specs.Permutation.{fits}
use Rattle.model.specs.Case.{Case}
use Rattle.model.specs.Rules.{verdict}
use Rattle.model.specs.Record.{read}
use Rattle.model.specs.Written.{record_of}
use Rattle.model.specs.Fault.{fault}
use Rattle.model.specs.Renumber.{renumber, fitting}
use Rattle.model.specs.Answers.{Stored, judgement, judge_out, judge, judge_case, refusal, done, handed, faultless, under_model, put, put_out, write, room_in, renumber_out, renumber_record, renumber_case}
use Rattle.condition_model.specs.Answers.{without, condition_out, condition, condition_case}
use Rattle.laws.proofs.Refits.{refits, same_length}
use Rattle.case.specs.declared.Case.{Case as Held}
use Rattle.case.specs.Held.{case_of, held}
use Rattle.case.specs.Sound.{Sound}
use Rattle.case.proofs.HeldBack.{fits_back}
use Rattle.case.proofs.Shape.{fits-case, held-sound}
use Rattle.number.specs.Number.{splice, Bytes}
use Rattle.model.specs.Fits.{Fits}
use Rattle.laws.proofs.ExactCase.{readable}
use Rattle.reader.specs.declared.Reading.{Reading}
use Rattle.rules.specs.declared.Model.{Model as Given}
use Rattle.rules.specs.Models.{model_of, model_number}
use Rattle.litmus.proofs.Models.{some_model}
use Rattle.reader.specs.Answers.{ReadingOf}
use Rattle.reader.proofs.Found.{Found, case_is}
use Rattle.answers.specs.declared.Cause.TheVariants.{Fault, NoFit}
use Rattle.answers.specs.Shown.{shown}
use Rattle.litmus.specs.Shown.{case_given, case_shown}

-- a reading as the answer that callers get
module _ (o : Out Case) where
  pub read_shown : (r : Reading) → ReadingOf o (Ok r) → case_given (Ok r) ≡ case_shown o
  unfolding case_shown
  read_shown r R = rw R.is_read (λ i. record { answer = shown (done r.length); case = R.holds i })

  pub read_missed : (e : Refusal) → ReadingOf o (Err e) → case_given (Err (record { cause = Fault e.fault; place = e.place })) ≡ case_shown o
  unfolding case_shown
  read_missed e h = rw h

-- 0 is no fault
fault_some : (f : a_fault.Fault) → number_of f ≡ 0 → ⊥
fault_some Ends e = omega arith
fault_some Form e = omega arith
fault_some Range e = omega arith
fault_some Turn e = omega arith
fault_some Unprintable e = omega arith

-- a case handed without bytes
module _ (c : Case) where
  pub handed_good : fault c ≡ 0 → handed c ≡ next c (length (record_of c))
  unfolding handed
  handed_good e = rw e

  pub handed_bad : (f : a_fault.Fault) → number_of f ≡ fault c → handed c ≡ stop (number_of f) 0
  unfolding handed
  handed_bad f e = rw (← e) (by (number_of f) (fault_some f))
    where
      by : (x : ℕ) → (x ≡ 0 → ⊥) → faultless x (next c (length (record_of c))) ≡ stop x 0
      by zero z = absurd (z refl)
      by (suc x) z = refl

-- writing it
module _ (c : Case) (buffer : List ℕ) (at : ℕ) where
  pub write_good : fault c ≡ 0 → put (record_of c) buffer at ≡ write c buffer at
  unfolding write
  write_good e = sym (rw (handed_good c e))

  pub write_bad : (f : a_fault.Fault) → number_of f ≡ fault c → record { answer = refusal (number_of f) 0; buffer = buffer } ≡ write c buffer at
  unfolding write
  write_bad f e = sym (rw (handed_bad c f e))

-- a renumbering of a case that was read or handed
module _ (c : Case) (F : Fits c) (q r : ℕ) (d : Held) (yes : fitting q r c ≡ true) (e : d ≡ held (renumber q r c)) where
  fits-q : T (fits q c.n)
  unfolding fitting
  fits-q = and_left (fits q c.n) _ (true-T yes)

  fits-r : T (fits r c.m)
  unfolding fitting
  fits-r = and_right (fits q c.n) _ (true-T yes)

  pub renumbered-sound : Sound d
  renumbered-sound = subst Sound (sym e) (held-sound (renumber q r c) (refits q r c F fits-q fits-r))

  pub renumbered_is : case_of d ≡ renumber q r c
  renumbered_is = ap case_of e ∙ fits_back (renumber q r c) (refits q r c F fits-q fits-r)

  pub renumbered-length : length (record_of (renumber q r c)) ≡ length (record_of c)
  renumbered-length = same_length q r c F fits-q fits-r

pub renumber-out : (q r : ℕ) (c : Case) (i : ℕ) → fitting q r c ≡ true → renumber_out q r (next c i) ≡ next (renumber q r c) (length (record_of (renumber q r c)))
renumber-out q r c i e = rw e

pub renumber-not : (q r : ℕ) (c : Case) (i : ℕ) → fitting q r c ≡ false → renumber_out q r (next c i) ≡ stop 5 0
renumber-not q r c i e = rw e

-- renumbering a case
module _ (c : Case) (q r : ℕ) (b : Bool) (e : b ≡ fitting q r c) (buffer : List ℕ) (at : ℕ) where
  pub fitted : b ≡ true → Fits c → (d : Held) → d ≡ held (renumber q r c) → put (record_of (case_of d)) buffer at ≡ put_out (renumber_out q r (next c 0)) buffer at
  fitted h F d g =
      ap (λ (x : Case). put (record_of x) buffer at) (renumbered_is c F q r d (sym e ∙ h) g)
      ∙ sym (ap (λ (o : Out Case). put_out o buffer at) (renumber-out q r c 0 (sym e ∙ h)))

-- renumbering a record, by what was read
module _ (s : List ℕ) (R : Reading) (q r : ℕ) where
  module _ (f : Found s R) where
    pub found-fits : Fits (case_of R.case)
    found-fits = subst Fits (sym (case_is f)) f.fits

    pub renumber_done : (buffer : List ℕ) (at : ℕ) → put_out (renumber_out q r (next (case_of R.case) 0)) buffer at ≡ renumber_record q r s buffer at
    unfolding renumber_record
    renumber_done buffer at =
        ap (λ (c : Case). put_out (renumber_out q r (next c R.length)) buffer at) (case_is f)
        ∙ sym (ap (λ (o : Out Case). put_out (renumber_out q r o) buffer at) f.is_read)

  module _ (f : Found s R) (b : Bool) (e : b ≡ fitting q r (case_of R.case)) where
    fits_is : fitting q r f.c ≡ b
    fits_is = ap (fitting q r) (sym (case_is f)) ∙ sym e

    pub renumber_misfit : b ≡ false → (buffer : List ℕ) (at : ℕ) → renumber_record q r s buffer at ≡ record { answer = refusal 5 0; buffer = buffer }
    unfolding renumber_record
    renumber_misfit no-fit buffer at =
        ap (λ (o : Out Case). put_out (renumber_out q r o) buffer at) f.is_read
        ∙ ap (λ (o : Out Case). put_out o buffer at) (renumber-not q r f.c R.length (fits_is ∙ no-fit))

    -- the number of bytes that it asks for is the record's
    pub renumber-room :
        Bytes s → b ≡ true → (size at : ℕ)
        → eqb (renumber_record q r s (replicate size 0) at).answer.number 0 ≡ room_in R.length size at
    unfolding renumber_record put
    renumber-room bytes fit size at =
        let long : length (record_of (renumber q r f.c)) ≡ R.length =
        renumbered-length f.c f.fits q r (held (renumber q r f.c)) (fits_is ∙ fit) refl ∙ sym (readable s bytes f.c R.length f.is_read).length in
        rw (f.is_read, fits_is ∙ fit, length-replicate {A = ℕ} size 0, long) (by (room_in R.length size at))
      where
        by : (t : Bool)
            → eqb (cond {A = Stored} t (record { answer = done R.length; buffer = splice (replicate size 0) at (record_of (renumber q r f.c)) }) (record { answer = refusal 6 0; buffer = replicate size 0 })).answer.number 0 ≡ t
        by true = refl
        by false = refl

pub renumber_missed : (s : List ℕ) (q r : ℕ) (e : Refusal) → ReadingOf (read s) (Err e) → (buffer : List ℕ) (at : ℕ)
    → renumber_record q r s buffer at ≡ record { answer = refusal (number_of e.fault) e.place; buffer = buffer }
unfolding renumber_record
renumber_missed s q r e h buffer at = rw h

pub missed_number : (s : List ℕ) (q r : ℕ) (e : Refusal) → ReadingOf (read s) (Err e) → (buffer : List ℕ) (at : ℕ) → eqb (renumber_record q r s buffer at).answer.number 0 ≡ false
missed_number s q r e h buffer at = ap (λ (w : Stored). eqb w.answer.number 0) (renumber_missed s q r e h buffer at) ∙ ne_eqb (number_of e.fault) 0 (fault_some e.fault)

-- renumbering a case handed without bytes
module _ (c : Held) (q r : ℕ) where
  module _ (good : fault (case_of c) ≡ 0) where
    case_out : (o : Out Case) → renumber_out q r (next (case_of c) (length (record_of (case_of c)))) ≡ o → renumber_case q r (case_of c) ≡ o
    unfolding renumber_case
    case_out o e = ap (renumber_out q r) (handed_good (case_of c) good) ∙ e

    -- what is left is a struct d, whose record has the size n
    pub case_done :
        fitting q r (case_of c) ≡ true → (d : Held) → d ≡ held (renumber q r (case_of c)) → (n : ℕ) → n ≡ length (record_of (case_of d))
        → case_given (Ok (record { case = d; length = n })) ≡ case_shown (renumber_case q r (case_of c))
    unfolding case_shown
    case_done fit d e n l =
        let long : n ≡ length (record_of (renumber q r (case_of c))) =
        l ∙ ap (λ (x : Case). length (record_of x)) (renumbered_is (case_of c) (fits-case c good) q r d fit e) in
        rw (case_out _ (renumber-out q r (case_of c) (length (record_of (case_of c))) fit)) (λ i. record { answer = shown (done (long i)); case = e i })

    pub case_misfit : fitting q r (case_of c) ≡ false → case_given (Err (record { cause = NoFit; place = 0 })) ≡ case_shown (renumber_case q r (case_of c))
    unfolding case_shown
    case_misfit e = sym (ap case_shown (case_out _ (renumber-not q r (case_of c) (length (record_of (case_of c))) e)))

  pub case_faulty : (f : a_fault.Fault) → number_of f ≡ fault (case_of c) → case_given (Err (record { cause = Fault f; place = 0 })) ≡ case_shown (renumber_case q r (case_of c))
  unfolding renumber_case case_shown
  case_faulty f e = sym (ap (λ (o : Out Case). case_shown (renumber_out q r o)) (handed_bad (case_of c) f e))

-- judging
module _ (model : ℕ) (m : Given) (h : model ≡ model_number m) where
  pub judge_done : (s : List ℕ) (R : Reading) → Found s R → judgement (case_of R.case) R.length (verdict (case_of R.case) (model_of m)) ≡ judge model s
  unfolding judge
  judge_done s R f =
      ap (λ (c : Case). judgement c R.length (verdict c (model_of m))) (case_is f)
      ∙ sym (some_model (λ w. judge_out w (read s)) (refusal 7 0) model m h ∙ ap (judge_out (model_of m)) f.is_read)

  pub judge_missed : (s : List ℕ) (x p : ℕ) → read s ≡ stop x p → refusal x p ≡ judge model s
  unfolding judge
  judge_missed s x p e = sym (some_model (λ w. judge_out w (read s)) (refusal 7 0) model m h ∙ ap (judge_out (model_of m)) e)

  pub judge_good : (c : Case) (n : ℕ) → n ≡ length (record_of c) → fault c ≡ 0 → judgement c n (verdict c (model_of m)) ≡ judge_case model c
  unfolding judge_case
  judge_good c n l e =
      ap (λ (x : ℕ). judgement c x (verdict c (model_of m))) l
      ∙ sym (some_model (λ w. judge_out w (handed c)) (refusal 7 0) model m h ∙ ap (judge_out (model_of m)) (handed_good c e))

  pub judge_bad : (c : Case) (f : a_fault.Fault) → number_of f ≡ fault c → refusal (number_of f) 0 ≡ judge_case model c
  unfolding judge_case
  judge_bad c f e = sym (some_model (λ w. judge_out w (handed c)) (refusal 7 0) model m h ∙ ap (judge_out (model_of m)) (handed_bad c f e))

-- a condition, by what is read or handed
module _ (model : ℕ) (m : Given) (h : model ≡ model_number m) (text : List ℕ) where
  under-model : (o o' : Out Case) → o' ≡ o → condition_out (model_of m) text o ≡ under_model model (λ w. condition_out w text o') (without (refusal 7 0))
  under-model o o' e = sym (some_model (λ w. condition_out w text o') (without (refusal 7 0)) model m h ∙ ap (condition_out (model_of m) text) e)

  pub condition_done : (s : List ℕ) (R : Reading) → Found s R → condition_out (model_of m) text (next (case_of R.case) R.length) ≡ condition model s text
  unfolding condition
  condition_done s R f = ap (λ (c : Case). condition_out (model_of m) text (next c R.length)) (case_is f) ∙ under-model _ (read s) f.is_read

  pub condition_missed : (s : List ℕ) (x p : ℕ) → read s ≡ stop x p → without (refusal x p) ≡ condition model s text
  unfolding condition
  condition_missed s x p e = under-model (stop x p) (read s) e

  pub condition_good : (c : Case) (n : ℕ) → n ≡ length (record_of c) → fault c ≡ 0 → condition_out (model_of m) text (next c n) ≡ condition_case model c text
  unfolding condition_case
  condition_good c n l e = under-model (next c n) (handed c) (handed_good c e ∙ ap (next c) (sym l))

  pub condition_bad : (c : Case) (f : a_fault.Fault) → number_of f ≡ fault c → without (refusal (number_of f) 0) ≡ condition_case model c text
  unfolding condition_case
  condition_bad c f e = under-model (stop (number_of f) 0) (handed c) (handed_bad c f e)
