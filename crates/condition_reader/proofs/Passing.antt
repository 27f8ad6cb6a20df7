-- What `?` passes on is told as the refusal that it was.
-- Assumes nothing.
use Prim.Native.Nat.{ℕ}
use mathlib.Core.Path.{◌≡◌, ap, subst}
use Rattle.std.specs.Result.{IsErr, IsErrAnd}
use Rattle.std.proofs.Common.{Option, Result, Err}
use Rattle.std.proofs.lemmas.Result.{err_from_is_err_and}
use Rattle.condition_reader.specs.declared.TextRefusal.{TextRefusal}
use Rattle.condition_reader.specs.Told.{refused, told, sign_told}

is_err : {A : Type 0} (r : Result A TextRefusal) (e : TextRefusal) → IsErr r × IsErrAnd r (λ x. x ≡ e) → r ≡ Err e
is_err r e h = let w = err_from_is_err_and r h.1 in subst (λ (x : TextRefusal). r ≡ Err x) w.2 w.1

pub told-err : {A : Type 0} (r : Result (A × ℕ) TextRefusal) (e : TextRefusal) → IsErr r × IsErrAnd r (λ x. x ≡ e) → told r ≡ refused e
told-err r e h = ap told (is_err r e h)

pub sign_told-err : (at : ℕ) (r : Result (Option ℕ) TextRefusal) (e : TextRefusal) → IsErr r × IsErrAnd r (λ x. x ≡ e) → sign_told at r ≡ refused e
sign_told-err at r e h = ap (sign_told at) (is_err r e h)
