-- The struct that holds a trace has its steps.
-- Assumes nothing.
use Prim.Native.Nat.{ℕ, ◌<◌}
use mathlib.Core.Path.{◌≡◌, refl}
use mathlib.Core.List.{List, map}
use lib.ListN.{length, get_or}
use Rattle.storage_model.specs.Limits.{most_steps}
use Rattle.storage_model.specs.Trace.{Trace, Step, accept_write, accept_barrier, propagate_write, propagate_barrier, commit, respond, acknowledge}
use Rattle.case.specs.Held.{pad}
use Rattle.case.proofs.HeldBack.{back, in_fields}
use Rattle.trace_reader.specs.Held.{kind_of, first_of, second_of, value_of, step_of, steps_of, held_trace}

-- a step is that of its kind and fields
pub step_back : (x : Step) → step_of (kind_of x) (first_of x) (second_of x) (value_of x) ≡ x
unfolding step_of
step_back (accept_write t a v) = refl
step_back (accept_barrier t c) = refl
step_back (propagate_write w t) = refl
step_back (propagate_barrier b t) = refl
step_back (commit x y) = refl
step_back (respond t a v) = refl
step_back (acknowledge b) = refl

module _ (xs : List Step) where
  same_step : (i : ℕ) (d : Step) → i < length xs
      → step_of (get_or (pad most_steps (map kind_of xs)) i 0) (get_or (pad most_steps (map first_of xs)) i 0) (get_or (pad most_steps (map second_of xs)) i 0) (get_or (pad most_steps (map value_of xs)) i 0) ≡ get_or xs i d
  same_step i d h = rw (in_fields most_steps kind_of d xs i h, in_fields most_steps first_of d xs i h, in_fields most_steps second_of d xs i h, in_fields most_steps value_of d xs i h) (step_back (get_or xs i d))

pub steps_back : (t : Trace) → steps_of (held_trace t) ≡ t.steps
unfolding steps_of held_trace
steps_back t =
    let d : Step = acknowledge 0 in
    back t.steps d (length t.steps) _ refl (λ i h. same_step t.steps i d h)
