-- What holds of the state behind steps that are enabled: it is sound and keeps the limits, and the steps that follow fit it.
-- Assumes nothing.
use Prim.Native.Nat.{ℕ}
use mathlib.Core.Path.{◌≡◌, refl, sym, ap, ◌∙◌, subst}
use mathlib.Core.Bool.{true}
use mathlib.Core.List.{List, [], ◌∷◌, ◌++◌, append-nil, append_assoc}
use lib.ListN.{length}
use Rattle.storage_model.specs.Trace.{Trace, Step, writes_in, barriers_in}
use Rattle.storage_model.specs.Subsystem.{State, writes_seen, barriers_seen, enabled, effect, initial}
use Rattle.storage_model.specs.Fits.{StepFits, StepsFit, Fits}
use Rattle.storage_model.specs.Sound.{Sound, Within}
use Rattle.storage_model.specs.Runs.{Enabled}
use Rattle.storage_laws.proofs.Counts.{writes-grown, barriers-grown, seen_step}
use Rattle.storage_laws.proofs.Sound.{sound-step, sound-initial}
use Rattle.storage_laws.proofs.Within.{within_step, within-initial, limits_stay}

-- now is the state behind the steps before, and rest follows
pub record Behind (n m : ℕ) (before rest : List Step) (now : State) : Type 0 where
  pub sound : Sound now
  pub limits : Within now
  pub threads : now.threads ≡ n
  pub addresses : length now.initials ≡ m
  pub writes : writes_seen now ≡ writes_in before
  pub barriers : barriers_seen now ≡ barriers_in before
  pub fits : StepsFit n m before rest

-- before the first step of a trace
pub behind-none : (t : Trace) → Fits t → Behind t.n t.m [] t.steps (initial t.n t.initials)
behind-none t F = record {
  sound = sound-initial t.n t.initials;
  limits = within-initial t.n t.initials F.n_most (rw (← F.m) F.m_most) F.initials;
  threads = unfold initial in refl;
  addresses = unfold initial in sym F.m;
  writes = unfold initial writes_in in refl;
  barriers = unfold initial barriers_in in refl;
  fits = F.steps;
}

module _ {n m : ℕ} {before rest : List Step} {now : State} {x : Step} (B : Behind n m before (x ∷ rest) now) where
  -- the step names writes and barriers that the state has seen, and there is room for what it accepts
  pub step_fits : StepFits n m (writes_seen now) (barriers_seen now) x
  step_fits = rw (B.writes, B.barriers) B.fits.0

  -- one step more
  pub behind-step : enabled now x ≡ true → Behind n m (before ++ (x ∷ [])) rest (effect now x)
  behind-step on =
      let seen = seen_step now x in
      let stay = limits_stay now x in
      record {
        sound = sound-step n m now B.sound x step_fits on;
        limits = within_step now B.limits x (rw (B.threads, B.addresses) step_fits);
        threads = stay.0 ∙ B.threads;
        addresses = ap length stay.1 ∙ B.addresses;
        writes = rw (writes-grown before x, ← B.writes) seen.0;
        barriers = rw (barriers-grown before x, ← B.barriers) seen.1;
        fits = B.fits.1;
      }

-- some steps more
pub behind-steps : {n m : ℕ} (before done rest : List Step) (s e : State) → Behind n m before (done ++ rest) s → Enabled s done e → Behind n m (before ++ done) rest e
behind-steps before [] rest s e B h = rw (append-nil before) (subst (Behind _ _ before rest) h B)
behind-steps before (x ∷ done) rest s e B h =
    rw append_assoc at (behind-steps (before ++ (x ∷ [])) done rest (effect s x) e (behind-step B h.0) h.1)
