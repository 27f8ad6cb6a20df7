-- What a run's answer means; after every step, where all so far are enabled, the state is sound and keeps the limits.
-- Assumes nothing.
use Prim.Native.Nat.{ℕ, suc, ◌+◌, ◌-◌, ◌≤◌}
use native.Mathlib.Nat.{add-zero, zero-add}
use native.Mathlib.Omega.{arith}
use mathlib.Core.Path.{◌≡◌, refl, sym, ap, ◌∙◌, subst}
use mathlib.Core.Bool.{Bool, true, false, cond}
use mathlib.Core.Logic.{◌↔◌}
use mathlib.Core.List.{List, [], ◌∷◌, ◌++◌, append-nil}
use lib.ListN.{length}
use Rattle.storage_model.specs.Trace.{Trace, Step}
use Rattle.storage_model.specs.Subsystem.{State, enabled, failing, effect, initial, Ran, refused, accepted, run_from, run}
use Rattle.storage_model.specs.Fits.{Fits}
use Rattle.storage_model.specs.Sound.{Sound, Within}
use Rattle.storage_model.specs.Runs.{Enabled, Stops}
use Rattle.storage_laws.proofs.Behind.{Behind, behind-none, behind-steps}

-- ---- what a run answers

-- what an answer says of the steps from s on, the first of which is numbered i
abbrev Says : (i : ℕ) (s : State) → List Step → Ran → Type 0
Says i s xs (accepted e) = Enabled s xs e
Says i s xs (refused j c) = (i ≤ j) × Stops s xs (j - i) c

says : (i : ℕ) (s : State) (xs : List Step) → Says i s xs (run_from i s xs)
unfolding run_from
says i s [] = refl
says i s (x ∷ xs) = by (enabled s x) refl (says (suc i) (effect s x) xs)
  where
    more : enabled s x ≡ true → (r : Ran) → Says (suc i) (effect s x) xs r → Says i s (x ∷ xs) r
    more p (accepted e) h = (p, h)
    more p (refused j c) h = (
      omega (arith, h.0),
      record {
        before = x ∷ h.1.before;
        step = h.1.step;
        behind = h.1.behind;
        parts = ap (λ (l : List Step). x ∷ l) h.1.parts;
        place = omega (arith, h.0, h.1.place);
        state = h.1.state;
        enabled_before = (p, h.1.enabled_before);
        not_enabled = h.1.not_enabled;
        condition = h.1.condition;
      },
    )

    by : (b : Bool) → enabled s x ≡ b → Says (suc i) (effect s x) xs (run_from (suc i) (effect s x) xs)
        → Says i s (x ∷ xs) (cond b (run_from (suc i) (effect s x) xs) (refused i (failing s x)))
    by true p h = more p (run_from (suc i) (effect s x) xs) h
    by false p h = (
      omega arith,
      record {
        before = [];
        step = x;
        behind = xs;
        parts = refl;
        place = omega arith;
        state = s;
        enabled_before = refl;
        not_enabled = p;
        condition = refl;
      },
    )

-- through steps that are enabled
through : (i : ℕ) (s : State) (xs ys : List Step) (e : State) → Enabled s xs e → run_from i s (xs ++ ys) ≡ run_from (i + length xs) e ys
unfolding run_from
through i s [] ys e h = rw (add-zero i, h)
through i s (x ∷ xs) ys e h =
    let place : suc i + length xs ≡ i + suc (length xs) = omega arith in
    rw h.0 (through (suc i) (effect s x) xs ys e h.1 ∙ ap (λ (k : ℕ). run_from k e ys) place)

abbrev begin : Trace → State
begin t = initial t.n t.initials

run-says : (t : Trace) (r : Ran) → run t ≡ r → Says 0 (begin t) t.steps r
unfolding run
run-says t r e = subst (Says 0 (begin t) t.steps) e (says 0 (begin t) t.steps)

-- "A trace is accepted exactly when each step is enabled where it stands"
pub accepted-iff : (t : Trace) (s : State) → (run t ≡ accepted s) ↔ Enabled (initial t.n t.initials) t.steps s
unfolding run run_from
accepted-iff t s = (
  run-says t (accepted s),
  λ h. ap (run_from 0 (begin t)) (sym (append-nil t.steps)) ∙ through 0 (begin t) t.steps [] s h,
)

-- "otherwise 31 and the first step that isn't", with the first of its conditions that fails
pub refused-iff : (t : Trace) (i c : ℕ) → (run t ≡ refused i c) ↔ Stops (initial t.n t.initials) t.steps i c
unfolding run run_from
refused-iff t i c = (
  λ e. let first : i - 0 ≡ i = omega arith in rw first at (run-says t (refused i c) e).1,
  λ h.
      ap (run_from 0 (begin t)) h.parts ∙ through 0 (begin t) h.before (h.step ∷ h.behind) h.state h.enabled_before
      ∙ rw (zero-add, h.not_enabled, h.place, h.condition),
)

-- ---- after any of a trace's first steps, where these are enabled

module _ (t : Trace) (F : Fits t) (s : State) where
  module _ (done rest : List Step) (e : t.steps ≡ done ++ rest) (h : Enabled (initial t.n t.initials) done s) where
    behind : Behind t.n t.m done rest s
    behind = behind-steps [] done rest (begin t) s (subst (λ (xs : List Step). Behind t.n t.m [] xs (begin t)) e (behind-none t F)) h

    -- coherence, lists and syncs are as they should be
    pub sound : Sound s
    sound = behind.sound

    -- the limits are kept
    pub within : Within s
    within = behind.limits

  -- the end state of an accepted trace
  module _ (h : run t ≡ accepted s) where
    end : Behind t.n t.m t.steps [] s
    end = behind t.steps [] (sym (append-nil t.steps)) ((accepted-iff t s).0 h)

    pub sound-end : Sound s
    sound-end = end.sound

    pub within_end : Within s
    within_end = end.limits
