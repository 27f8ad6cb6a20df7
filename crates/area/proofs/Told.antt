-- What the end of a log tells.
-- Assumes nothing.
use Prim.Native.Nat.{ℕ, ◌≤◌}
use native.Mathlib.Omega.{arith}
use mathlib.Core.Path.{◌≡◌, refl, sym, ap, ◌∙◌}
use mathlib.Core.List.{List}
use lib.ListN.{length}
use borrow.Author.Tests.{ne_eqb}
use Rattle.std.proofs.Common.{Ok, Err}
use Rattle.number.specs.declared.Fault.TheVariants.{Ends, Form, Range, Turn, Unprintable}
use Rattle.log_model.specs.Log.{Ending}
use Rattle.model.specs.Answers.{Stored}
use Rattle.answers.specs.declared.Refused.{Refused}
use Rattle.answers.specs.declared.Cause.{Cause}
use Rattle.answers.specs.declared.Cause.TheVariants.{Fault, NoFit, NoRoom, NoModel, Unrepaired, BadFlag}
use Rattle.answers.specs.Shown.{cause_number}
use Rattle.area_model.specs.Area.{found, unless_fault}
use Rattle.area_model.proofs.Survival.{end-within}
use Rattle.area.specs.Shown.{EndOf, stores_given, Answered}

-- 0 is no refusal
pub cause_some : (k : Cause) → cause_number k ≡ 0 → ⊥
cause_some (Fault Ends) e = omega arith
cause_some (Fault Form) e = omega arith
cause_some (Fault Range) e = omega arith
cause_some (Fault Turn) e = omega arith
cause_some (Fault Unprintable) e = omega arith
cause_some NoFit e = omega arith
cause_some NoRoom e = omega arith
cause_some NoModel e = omega arith
cause_some Unrepaired e = omega arith
cause_some BadFlag e = omega arith

module _ (area : List ℕ) where
  module _ (end : ℕ) (E : EndOf (found area) (Ok end)) where
    pub end-inside : end ≤ length area
    end-inside = omega (arith, E.end_is, end-within area E.faultless)

    -- a log without fault, and one with a fault of its own
    pub faultless : (s : Stored) → unless_fault (found area).ending area s ≡ s
    faultless s = rw E.faultless

  pub faulty : (e : Refused) → EndOf (found area) (Err e) → (s : Stored) → Answered (unless_fault (found area).ending area s) (stores_given (Err e)) area
  faulty e h s =
      let n : (found area).ending.number ≡ cause_number e.cause = ap (λ (x : Ending). x.number) h in
      rw (ne_eqb (found area).ending.number 0 (λ z. cause_some e.cause (sym n ∙ z)), h) (record { answer = refl; area = refl })
