-- What the call on a case answers: its representative, or its fault.
-- Assumes nothing.
use Prim.Native.Nat.{ℕ}
use mathlib.Core.Path.{◌≡◌, sym, ap, ◌∙◌}
use lib.ListN.{length}
use Rattle.std.proofs.Common.{Ok, Err}
use Rattle.number.specs.declared.Fault as a_fault
use Rattle.number.specs.Reader.{Out, number_of}
use Rattle.model.specs.Case.{Case}
use Rattle.model.specs.Written.{record_of}
use Rattle.model.specs.Fault.{fault}
use Rattle.model.specs.Answers.{done}
use Rattle.case.specs.declared.Case.{Case as Held}
use Rattle.case.specs.Held.{case_of, held}
use Rattle.answers.specs.declared.Cause.TheVariants.{Fault}
use Rattle.answers.specs.Shown.{shown}
use Rattle.least.proofs.Represented.{represented_is}
use Rattle.classes.specs.Representative.{representative, representative_out, representative_case}
use Rattle.litmus.specs.Shown.{case_given, case_shown}
use Rattle.litmus.proofs.Given.{handed_good, handed_bad}

module _ (c : Held) where
  -- the struct d is left, whose record has the size n
  pub represented_done :
      fault (case_of c) ≡ 0 → (d : Held) → d ≡ held (representative (case_of c)) → (n : ℕ) → n ≡ length (record_of (case_of d))
      → case_given (Ok (record { case = d; length = n })) ≡ case_shown (representative_case (case_of c))
  unfolding case_shown representative_case
  represented_done good d e n l =
      let long : n ≡ length (record_of (representative (case_of c))) = l ∙ ap (λ (x : Case). length (record_of x)) (represented_is c d good e) in
      rw (handed_good (case_of c) good) (λ i. record { answer = shown (done (long i)); case = e i })

  pub represented_faulty : (f : a_fault.Fault) → number_of f ≡ fault (case_of c) → case_given (Err (record { cause = Fault f; place = 0 })) ≡ case_shown (representative_case (case_of c))
  unfolding case_shown representative_case
  represented_faulty f e = sym (ap (λ (o : Out Case). case_shown (representative_out o)) (handed_bad (case_of c) f e))
