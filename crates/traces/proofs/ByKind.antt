-- The ways through `step`, by the step's kind.
-- Assumes nothing.
use Prim.Native.Nat.{ℕ, ◌≤◌}
use mathlib.Core.Path.{◌≡◌, refl, sym, subst}
use native.Mathlib.Omega.{arith}
use Rattle.std.specs.Prelude.{Result, Ok}
use Rattle.storage_model.specs.Limits.{most_kind}
use Rattle.storage_model.specs.Trace.{Step, accept_write, accept_barrier, propagate_write, propagate_barrier, commit, respond, acknowledge}
use Rattle.storage_model.specs.Subsystem.{failing, effect}
use Rattle.storage_model.specs.Fits.{StepFits}
use Rattle.storage.specs.Held.{state_of, held}
use Rattle.storage.specs.declared.Storage.{Storage as Held}
use Rattle.trace_reader.specs.Held.{kind_of, step_of}
use Rattle.trace_reader.specs.Kinds.{number_of}
use Rattle.trace_reader.specs.declared.Kind.{Kind}
use Rattle.trace_reader.specs.declared.Kind.TheVariants.{AcceptWrite, AcceptBarrier, PropagateWrite, PropagateBarrier, Commit, Respond, Acknowledge}
use Rattle.transitions.specs.Steps.{Took}
use Rattle.transitions.specs.declared.Condition.{Condition}
use Rattle.transitions.proofs.Taken.{taken}
use Rattle.traces.specs.Shown.{Fitting}

-- the step of each kind
module _ {k : Kind} {x y first second : ℕ} (v : ℕ) (ex : x ≡ first) (ey : y ≡ second) where
  pub is_write : k ≡ AcceptWrite → step_of (number_of k) first second v ≡ accept_write x y v
  unfolding step_of
  is_write e = rw (e, ex, ey)

  pub is_barrier : k ≡ AcceptBarrier → step_of (number_of k) first second v ≡ accept_barrier x y
  unfolding step_of
  is_barrier e = rw (e, ex, ey)

  pub is_propagate_write : k ≡ PropagateWrite → step_of (number_of k) first second v ≡ propagate_write x y
  unfolding step_of
  is_propagate_write e = rw (e, ex, ey)

  pub is_propagate_barrier : k ≡ PropagateBarrier → step_of (number_of k) first second v ≡ propagate_barrier x y
  unfolding step_of
  is_propagate_barrier e = rw (e, ex, ey)

  pub is_commit : k ≡ Commit → step_of (number_of k) first second v ≡ commit x y
  unfolding step_of
  is_commit e = rw (e, ex, ey)

  pub is_respond : k ≡ Respond → step_of (number_of k) first second v ≡ respond x y v
  unfolding step_of
  is_respond e = rw (e, ex, ey)

pub is_acknowledge : {k : Kind} {x first : ℕ} (y v : ℕ) → x ≡ first → k ≡ Acknowledge → step_of (number_of k) first y v ≡ acknowledge x
unfolding step_of
is_acknowledge y v ex e = rw (e, ex)

-- the number of a step's kind
pub kind_least : (x : Step) → 1 ≤ kind_of x
kind_least (accept_write t a v) = omega arith
kind_least (accept_barrier t c) = omega arith
kind_least (propagate_write w t) = omega arith
kind_least (propagate_barrier b t) = omega arith
kind_least (commit x y) = omega arith
kind_least (respond t a v) = omega arith
kind_least (acknowledge b) = omega arith

pub kind_most : (x : Step) → kind_of x ≤ most_kind
kind_most (accept_write t a v) = omega arith
kind_most (accept_barrier t c) = omega arith
kind_most (propagate_write w t) = omega arith
kind_most (propagate_barrier b t) = omega arith
kind_most (commit x y) = omega arith
kind_most (respond t a v) = omega arith
kind_most (acknowledge b) = omega arith

module _ {c : Held} {s : Step} where
  -- its fields keep the limits of its kind
  pub fits_as : {u : Step} → Fitting c s → s ≡ u → StepFits c.threads c.addresses c.writes c.barriers u
  fits_as F e = subst (StepFits c.threads c.addresses c.writes c.barriers) e F.fits

  -- it was taken
  pub took_as : {u : Step} {r : Result Held Condition} → s ≡ u → Took c u r → Took c s r
  took_as {u} {r} e t = subst (λ (z : Step). Took c z r) (sym e) t

  -- a write and a barrier can always be accepted
  pub took_write : {t a v : ℕ} {next : Held} → s ≡ accept_write t a v → next ≡ held (effect (state_of c) (accept_write t a v)) → Took c s (Ok next)
  unfolding failing
  took_write {t} {a} {v} e h = took_as e (taken c (accept_write t a v) refl h)

  pub took_barrier : {t z : ℕ} {next : Held} → s ≡ accept_barrier t z → next ≡ held (effect (state_of c) (accept_barrier t z)) → Took c s (Ok next)
  unfolding failing
  took_barrier {t} {z} e h = took_as e (taken c (accept_barrier t z) refl h)
