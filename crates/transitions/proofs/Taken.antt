-- What a step that was asked and taken gives.
-- Assumes nothing.
use Prim.Native.Nat.{ℕ, ◌+◌, ◌<◌}
use native.Mathlib.Omega.{arith}
use mathlib.Core.Path.{◌≡◌, ap, ◌∙◌}
use Rattle.std.specs.Prelude.{Ok, Err}
use Rattle.storage_model.specs.Limits.{most_writes}
use Rattle.storage_model.specs.Trace.{Step, propagate_write, propagate_barrier}
use Rattle.storage_model.specs.Subsystem.{Event, failing, with_event, effect}
use Rattle.storage.specs.Held.{state_of, held, event_of, Good}
use Rattle.storage.specs.declared.Storage.{Storage as Held}
use Rattle.storage.proofs.Events.{write_of, barrier_of}
use Rattle.storage.proofs.Means.{writes-few}
use Rattle.transitions.specs.declared.Condition.{Condition}
use Rattle.transitions.specs.Steps.{number_of, Took}

-- a step that is not enabled
pub not_taken : (c : Held) (x : Step) (e : Condition) → number_of e ≡ failing (state_of c) x → Took c x (Err e)
not_taken c x e h = record { condition = h; next = λ n q. cc }

-- a step that is
pub taken : (c : Held) (x : Step) {next : Held} → 0 ≡ failing (state_of c) x → next ≡ held (effect (state_of c) x) → Took c x (Ok next)
taken c x {next} h f = record { condition = h; next = λ n q. let e : n ≡ next = cc in e ∙ f }

-- a write at the end of the list of the thread that it goes to
pub took_write : (c : Held) → Good c → (w : ℕ) → w < c.writes → (t : ℕ) {next : Held}
    → 0 ≡ failing (state_of c) (propagate_write w t) → next ≡ held (with_event (state_of c) t (event_of w))
    → Took c (propagate_write w t) (Ok next)
unfolding effect
took_write c G w l t e f =
    taken c (propagate_write w t) e
    (f ∙ ap (λ (x : Event). held (with_event (state_of c) t x)) (write_of w (let few = writes-few c G in omega (arith, few))))

-- a barrier at the end of it
pub took_barrier : (c : Held) (b t : ℕ) {x : ℕ} {next : Held} → 0 ≡ failing (state_of c) (propagate_barrier b t) → x ≡ b + most_writes
    → next ≡ held (with_event (state_of c) t (event_of x)) → Took c (propagate_barrier b t) (Ok next)
unfolding effect
took_barrier c b t e g f =
    taken c (propagate_barrier b t) e
    (f ∙ ap (λ (y : Event). held (with_event (state_of c) t y)) (ap event_of g ∙ barrier_of b))
