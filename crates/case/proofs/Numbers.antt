-- What a check answers, as a number: an error's is not 0, and is passed on by `?`.
-- Assumes nothing.
use native.Mathlib.Omega.{arith}
use mathlib.Core.Path.{◌≡◌, ap, ◌∙◌}
use Rattle.std.specs.Result.{IsErr, IsErrAnd}
use Rattle.std.proofs.Common.{Result}
use Rattle.std.proofs.lemmas.Result.{err_from_is_err_and}
use Rattle.number.specs.declared.Fault.{Fault}
use Rattle.number.specs.declared.Fault.TheVariants.{Ends, Form, Range, Turn, Unprintable}
use Rattle.number.specs.Reader.{number_of}
use Rattle.case.specs.Faults.{fault_number}

pub some-number : (f : Fault) → number_of f ≡ 0 → ⊥
some-number Ends h = omega arith
some-number Form h = omega arith
some-number Range h = omega arith
some-number Turn h = omega arith
some-number Unprintable h = omega arith

pub err-number : {A : Type 0} (r : Result A Fault) (f : Fault) → IsErr r × IsErrAnd r (λ e. e ≡ f) → fault_number r ≡ number_of f
err-number r f h = let w = err_from_is_err_and r h.1 in ap fault_number w.1 ∙ ap number_of w.2
