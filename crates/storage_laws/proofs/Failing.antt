-- A step is enabled exactly where none of its conditions fails.
-- Assumes nothing.
use mathlib.Core.Path.{◌≡◌, refl}
use mathlib.Core.Bool.{Bool, true, false, ◌&&◌}
use lib.Dec.{eqb}
use Rattle.model.specs.Rules.{or_else}
use Rattle.storage_model.specs.Trace.{Step, accept_write, accept_barrier, propagate_write, propagate_barrier, commit, respond, acknowledge}
use Rattle.storage_model.specs.Subsystem.{State, enabled, failing, write_is_new, write_is_after, barriers_went_before, barrier_is_new, group_a_went_before, to_one_address, unrelated, acyclic_with, committed, responds_latest, unacknowledged_sync, everywhere}

one : (a : Bool) → a ≡ eqb (or_else a 1 0) 0
one true = refl
one false = refl

two : (a b : Bool) → (a && b) ≡ eqb (or_else a 1 (or_else b 2 0)) 0
two true true = refl
two true false = refl
two false b = refl

three : (a b c : Bool) → (a && (b && c)) ≡ eqb (or_else a 1 (or_else b 2 (or_else c 3 0))) 0
three true true true = refl
three true true false = refl
three true false c = refl
three false b c = refl

-- `failing` is 0 where the step is enabled, and only there
pub enabled-failing : (s : State) (x : Step) → enabled s x ≡ eqb (failing s x) 0
unfolding enabled failing
enabled-failing s (accept_write t a v) = refl
enabled-failing s (accept_barrier t c) = refl
enabled-failing s (propagate_write w t) = three (write_is_new s w t) (write_is_after s w t) (barriers_went_before s w t)
enabled-failing s (propagate_barrier b t) = two (barrier_is_new s b t) (group_a_went_before s b t)
enabled-failing s (commit x y) = three (to_one_address s x y) (unrelated s x y) (acyclic_with s (committed s x y))
enabled-failing s (respond t a v) = one (responds_latest s t a v)
enabled-failing s (acknowledge b) = two (unacknowledged_sync s b) (everywhere s b)
