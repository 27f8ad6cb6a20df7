-- What holds at each turn of the loop that takes a trace's steps.
-- Assumes nothing.
use Prim.Native.Nat.{ℕ, suc, ◌+◌, ◌-◌, ◌≤◌, ◌<◌}
use native.Mathlib.Numerals.{add-one}
use native.Mathlib.Omega.{arith}
use mathlib.Core.Path.{◌≡◌, sym, ap, ap₂, ◌∙◌}
use mathlib.Core.Bool.{Bool, true, false, cond}
use mathlib.Core.List.{◌∷◌}
use lib.Dec.{eqb}
use borrow.Author.Tests.{eq-eqb, ne_eqb}
use Rattle.finite.specs.Lists.{table}
use Rattle.finite.proofs.Lists.{table_more, table_turn, table-end}
use Rattle.storage_model.specs.Trace.{Trace, Step}
use Rattle.storage_model.specs.Subsystem.{State, writes_seen, barriers_seen, failing, effect, initial, refused, accepted, run_from}
use Rattle.storage_model.specs.Fits.{StepFits, Fits}
use Rattle.storage_laws.proofs.Failing.{enabled-failing}
use Rattle.storage_laws.proofs.Behind.{Behind, behind-none, step_fits, behind-step}

-- the steps from i on, taken from now, end as all of them do from the start
pub record Running (start : State) (xs : ℕ → Step) (count i : ℕ) (now : State) : Type 0 where
  pub within : i ≤ count
  pub same : run_from i now (table i (count - i) xs) ≡ run_from 0 start (table 0 count xs)

module _ {start : State} {xs : ℕ → Step} {count : ℕ} where
  -- before the first turn
  pub running_begun : Running start xs count 0 start
  running_begun = record { within = omega arith; same = let z : count - 0 ≡ count = omega arith in ap (λ (k : ℕ). run_from 0 start (table 0 k xs)) z }

  -- c says which of the step's conditions fails first
  module _ {i : ℕ} {now : State} (R : Running start xs count i now) (l : i < count) {c : ℕ} (e : c ≡ failing now (xs i)) where
    -- the step's turn
    turn : (z : Bool) → eqb c 0 ≡ z
        → cond z (run_from (suc i) (effect now (xs i)) (table (i + 1) (count - (i + 1)) xs)) (refused i (failing now (xs i))) ≡ run_from 0 start (table 0 count xs)
    unfolding run_from
    turn z h =
        ap (λ (y : Bool). cond y (run_from (suc i) (effect now (xs i)) (table (i + 1) (count - (i + 1)) xs)) (refused i (failing now (xs i))))
        (sym h ∙ ap (λ (k : ℕ). eqb k 0) e ∙ sym (enabled-failing now (xs i)))
        ∙ sym (ap (run_from i now) (table_turn i count xs l)) ∙ R.same

    -- it is enabled: the run goes on from its effect
    pub running_more : (next : State) → c ≡ 0 → next ≡ effect now (xs i) → Running start xs count (i + 1) next
    running_more next h f = record {
      within = omega arith;
      same = ap₂ (λ (k : ℕ) (s : State). run_from k s (table (i + 1) (count - (i + 1)) xs)) (add-one i) f ∙ turn true (eq-eqb c 0 h);
    }

    -- it is not: the run ends here
    pub running_refused : (c ≡ 0 → ⊥) → refused i c ≡ run_from 0 start (table 0 count xs)
    running_refused d = ap (refused i) e ∙ turn false (ne_eqb c 0 d)

  -- behind the last step
  pub running_ends : {i : ℕ} {now : State} → Running start xs count i now → count ≤ i → accepted now ≡ run_from 0 start (table 0 count xs)
  unfolding run_from
  running_ends {i} {now} R l = sym (ap (run_from i now) (table-end i count xs l)) ∙ R.same

-- the state behind the first i steps, from turn to turn
pub record BehindAt (n m : ℕ) (xs : ℕ → Step) (count i : ℕ) (now : State) : Type 0 where
  pub state : Behind n m (table 0 i xs) (table i (count - i) xs) now

-- before the first turn
pub behind-begun : (t : Trace) → Fits t → (xs : ℕ → Step) (count : ℕ) → t.steps ≡ table 0 count xs → BehindAt t.n t.m xs count 0 (initial t.n t.initials)
unfolding table
behind-begun t F xs count e = record { state = let z : count - 0 ≡ count = omega arith in rw (z, ← e) (behind-none t F) }

module _ {n m : ℕ} {xs : ℕ → Step} {count i : ℕ} {now : State} (B : BehindAt n m xs count i now) (l : i < count) where
  here : Behind n m (table 0 i xs) (xs i ∷ table (i + 1) (count - (i + 1)) xs) now
  here = rw (← table_turn i count xs l) B.state

  -- the step fits the state
  pub step-fits_at : StepFits n m (writes_seen now) (barriers_seen now) (xs i)
  step-fits_at = step_fits here

  -- it is enabled
  pub behind_more : {c : ℕ} → c ≡ failing now (xs i) → c ≡ 0 → (next : State) → next ≡ effect now (xs i) → BehindAt n m xs count (i + 1) next
  behind_more e z next f = record {
    state = rw (f, table_more i xs) (behind-step here (enabled-failing now (xs i) ∙ eq-eqb (failing now (xs i)) 0 (sym e ∙ z)));
  }
