-- The turns of taking a trace's steps.
-- Assumes nothing.
use Prim.Native.Nat.{ℕ, ◌+◌, ◌≤◌, ◌<◌}
use mathlib.Core.Path.{◌≡◌, refl, sym, ap, ◌∙◌, subst}
use lib.ListN.{length, get_or}
use native.Mathlib.Omega.{arith}
use Rattle.std.specs.Prelude.{Ok, Err}
use Rattle.finite.proofs.Lists.{table-length}
use Rattle.storage_model.specs.Limits.{most_kind, most_steps}
use Rattle.storage_model.specs.Trace.{Step, acknowledge}
use Rattle.storage_model.specs.Subsystem.{State, effect, Ran, refused, run}
use Rattle.storage_model.specs.Answers.{ran_answer}
use Rattle.storage_laws.proofs.Running.{Running, running_begun, running_more, running_refused, running_ends, BehindAt, behind-begun, step-fits_at, behind_more}
use Rattle.storage.specs.Held.{state_of, held, Good}
use Rattle.storage.specs.declared.Storage.{Storage as Held}
use Rattle.storage.proofs.Means.{writes-of, barriers-of, addresses_of}
use Rattle.storage.proofs.Back.{state_back}
use Rattle.trace_reader.specs.Held.{kind_of, step_of, steps_of, held_trace}
use Rattle.case.proofs.HeldBack.{in_fields}
use Rattle.trace_reader.specs.declared.Trace.{Trace as HeldTrace}
use Rattle.transitions.specs.Steps.{Took, number_of}
use Rattle.transitions.specs.declared.Condition.{Condition}
use Rattle.transitions.specs.declared.Condition.TheVariants.{First, Second, Third}
use Rattle.traces.proofs.ByKind.{kind_least, kind_most}
use Rattle.traces.specs.Shown.{trace_of, GoodTrace, Fitting, start_of, trace_shown}
use Rattle.traces.specs.declared.TraceAnswer.{TraceAnswer}

-- the trace's step i
abbrev step_at : HeldTrace → (i : ℕ) → Step
step_at c i = step_of (get_or c.kind i 0) (get_or c.first i 0) (get_or c.second i 0) (get_or c.value i 0)

-- of the trace's steps i are taken, which led to the state that now holds
pub record Turn (c : HeldTrace) (i : ℕ) (now : Held) : Type 0 where
  pub running : Running (start_of c) (step_at c) c.steps i (state_of now)
  pub behind : BehindAt c.threads c.addresses (step_at c) c.steps i (state_of now)
  pub same : now ≡ held (state_of now)
  pub few : c.steps ≤ most_steps

-- the struct that holds such a state
turn_held : (c : HeldTrace) (i : ℕ) (s : State) → Running (start_of c) (step_at c) c.steps i s → BehindAt c.threads c.addresses (step_at c) c.steps i s
    → c.steps ≤ most_steps → Turn c i (held s)
turn_held c i s R B l =
    let back : s ≡ state_of (held s) = sym (state_back s B.state.sound B.state.limits) in
    record {
      running = subst (Running (start_of c) (step_at c) c.steps i) back R;
      behind = subst (BehindAt c.threads c.addresses (step_at c) c.steps i) back B;
      same = ap held back;
      few = l;
    }

-- a condition's number is not 0
not_none : (e : Condition) → number_of e ≡ 0 → ⊥
not_none First z = omega arith
not_none Second z = omega arith
not_none Third z = omega arith

pub steps_few : (c : HeldTrace) → GoodTrace c → c.steps ≤ most_steps
unfolding trace_of steps_of
steps_few c G = rw table-length at G.fits.steps_most

-- the kind of a step in the struct
pub kind_within : (c : HeldTrace) → GoodTrace c → (i : ℕ) → i < c.steps → (1 ≤ get_or c.kind i 0) × (get_or c.kind i 0 ≤ most_kind)
unfolding held_trace trace_of steps_of
kind_within c G i l =
    let d : Step = acknowledge 0 in
    let long : i < length (steps_of c) = rw table-length l in
    let is : get_or c.kind i 0 ≡ kind_of (get_or (steps_of c) i d) = ap (λ (x : HeldTrace). get_or x.kind i 0) G.same ∙ in_fields most_steps kind_of d (steps_of c) i long in
    rw is (kind_least (get_or (steps_of c) i d), kind_most (get_or (steps_of c) i d))

-- before the first turn
pub turn_begun : (c : HeldTrace) → GoodTrace c → (now : Held) → now ≡ held (start_of c) → Turn c 0 now
unfolding start_of trace_of steps_of
turn_begun c G now h =
    subst (Turn c 0) (sym h) (turn_held c 0 (start_of c) running_begun (behind-begun (trace_of c) G.fits (step_at c) c.steps refl) (steps_few c G))

module _ (c : HeldTrace) (i : ℕ) (now : Held) (T : Turn c i now) where
  -- the struct is good
  pub turn_good : Good now
  turn_good = record { same = T.same; sound = T.behind.state.sound; within = T.behind.state.limits }

  module _ (l : i < c.steps) where
    -- the step fits where it stands
    pub turn_fits : Fitting now (step_at c i)
    unfolding state_of
    turn_fits =
        let threads : now.threads ≡ c.threads = T.behind.state.threads in
        let addresses : now.addresses ≡ c.addresses = sym (addresses_of now) ∙ T.behind.state.addresses in
        record { fits = rw (threads, addresses, ← writes-of now, ← barriers-of now) (step-fits_at T.behind l) }

    -- it is enabled: the next turn
    pub turn_more : (next : Held) → Took now (step_at c i) (Ok next) → Turn c (i + 1) next
    turn_more next K =
        let after : State = effect (state_of now) (step_at c i) in
        subst (Turn c (i + 1)) (sym (K.next next refl))
        (turn_held c (i + 1) after (running_more T.running l K.condition after refl refl) (behind_more T.behind l K.condition refl after refl) T.few)

    -- it is not: the answer
    pub turn_refused : (e : Condition) → Took now (step_at c i) (Err e) → (size : ℕ) (r : TraceAnswer) → r ≡ trace_shown (ran_answer 0 (refused i (number_of e)))
        → r ≡ trace_shown (ran_answer size (run (trace_of c)))
    unfolding run start_of trace_of steps_of
    turn_refused e K size r h = h ∙ ap (λ (o : Ran). trace_shown (ran_answer size o)) (running_refused T.running l K.condition (not_none e))

  -- behind the last step: the answer
  pub turn_ends : c.steps ≤ i → (size : ℕ)
      → ◌≡◌ {A = TraceAnswer} (record { number = 0; condition = 0; place = 0; step = 0; length = size; end = now }) (trace_shown (ran_answer size (run (trace_of c))))
  unfolding run start_of trace_of steps_of trace_shown
  turn_ends l size =
      ap (λ (e : Held). record { number = 0; condition = 0; place = 0; step = 0; length = size; end = e }) T.same
      ∙ ap (λ (o : Ran). trace_shown (ran_answer size o)) (running_ends T.running l)
