-- How many writes and barriers the steps of a trace accept.
-- Assumes nothing.
use Prim.Native.Nat.{ℕ, ◌+◌, ◌≤◌}
use native.Mathlib.Nat.{add_assoc}
use native.Mathlib.Omega.{arith}
use mathlib.Core.Path.{◌≡◌, sym, ap, ◌∙◌}
use mathlib.Core.List.{List, [], ◌∷◌, ◌++◌}
use lib.ListN.{length-append}
use Rattle.storage_model.specs.Limits.{most_writes, most_barriers}
use Rattle.storage_model.specs.Trace.{Step, accept_write, accept_barrier, propagate_write, propagate_barrier, commit, respond, acknowledge, writes_of, barriers_of, writes_in, barriers_in}
use Rattle.storage_model.specs.Subsystem.{State, writes_seen, barriers_seen, effect}
use Rattle.storage_model.specs.Fits.{StepFits}

-- one step more
pub writes-grown : (before : List Step) (x : Step) → writes_in (before ++ (x ∷ [])) ≡ writes_in before + writes_of x
unfolding writes_in
writes-grown [] x = omega arith
writes-grown (y ∷ before) x = ap (λ (i : ℕ). writes_of y + i) (writes-grown before x) ∙ sym (add_assoc (writes_of y) (writes_in before) (writes_of x))

pub barriers-grown : (before : List Step) (x : Step) → barriers_in (before ++ (x ∷ [])) ≡ barriers_in before + barriers_of x
unfolding barriers_in
barriers-grown [] x = omega arith
barriers-grown (y ∷ before) x =
    ap (λ (i : ℕ). barriers_of y + i) (barriers-grown before x) ∙ sym (add_assoc (barriers_of y) (barriers_in before) (barriers_of x))

-- how many writes and barriers are seen after a step
pub seen_step : (s : State) (x : Step) → (writes_seen (effect s x) ≡ writes_seen s + writes_of x) × (barriers_seen (effect s x) ≡ barriers_seen s + barriers_of x)
unfolding effect
seen_step s (accept_write t a v) = (length-append s.writes _, omega arith)
seen_step s (accept_barrier t c) = (omega arith, length-append s.barriers _)
seen_step s (propagate_write w t) = omega arith
seen_step s (propagate_barrier b t) = omega arith
seen_step s (commit x y) = omega arith
seen_step s (respond t a v) = omega arith
seen_step s (acknowledge b) = omega arith

-- no more writes and barriers than there may be
abbrev pub FewEvents : (w b : ℕ) → Type 0
FewEvents w b = (w ≤ most_writes) × (b ≤ most_barriers)

few-more : (n m w b : ℕ) (x : Step) → StepFits n m w b x → FewEvents w b → FewEvents (w + writes_of x) (b + barriers_of x)
few-more n m w b (accept_write t a v) F l = omega (arith, F.0, l)
few-more n m w b (accept_barrier t c) F l = omega (arith, F.0, l)
few-more n m w b (propagate_write x t) F l = omega (arith, l)
few-more n m w b (propagate_barrier x t) F l = omega (arith, l)
few-more n m w b (commit x y) F l = omega (arith, l)
few-more n m w b (respond t a v) F l = omega (arith, l)
few-more n m w b (acknowledge x) F l = omega (arith, l)

-- behind a step that fits, too
pub few-grown : (n m : ℕ) (before : List Step) (x : Step) → StepFits n m (writes_in before) (barriers_in before) x → FewEvents (writes_in before) (barriers_in before)
    → FewEvents (writes_in (before ++ (x ∷ []))) (barriers_in (before ++ (x ∷ [])))
few-grown n m before x F l = rw (writes-grown before x, barriers-grown before x) (few-more n m (writes_in before) (barriers_in before) x F l)

-- before the first step
pub few-none : FewEvents (writes_in []) (barriers_in [])
unfolding writes_in barriers_in
few-none = omega arith
