-- The struct after a step, and the room that an event has in a thread's list.
-- Assumes nothing.
use Prim.Native.Nat.{ℕ, ◌+◌, ◌<◌}
use native.Mathlib.Omega.{arith}
use mathlib.Core.Path.{◌≡◌, ap, ◌∙◌}
use mathlib.Core.Bool.{true}
use mathlib.Core.List.{List, [], ◌∷◌, ◌++◌}
use lib.ListN.{length, get_or, length-append}
use lib.Seq.{get_or-set_same}
use Rattle.storage_model.specs.Limits.{most_listed}
use Rattle.storage_model.specs.Trace.{Step}
use Rattle.storage_model.specs.Fits.{StepFits}
use Rattle.storage_model.specs.Subsystem.{State, Event, events, writes_seen, barriers_seen, appended, enabled, effect}
use Rattle.storage_model.specs.Sound.{Sound, Within}
use Rattle.storage_laws.proofs.Sound.{sound-step}
use Rattle.storage_laws.proofs.Within.{within_step}
use Rattle.storage.specs.Held.{state_of, held, Good}
use Rattle.storage.specs.declared.Storage.{Storage as Held}
use Rattle.storage.proofs.Back.{state_back, good_held}
use Rattle.storage.proofs.Means.{lists-few, writes-of, barriers-of, addresses_of}

-- after a step that was enabled
module _ (c : Held) (G : Good c) (x : Step) (F : StepFits c.threads c.addresses c.writes c.barriers x) (on : enabled (state_of c) x ≡ true) where
  fits : StepFits (state_of c).threads (length (state_of c).initials) (writes_seen (state_of c)) (barriers_seen (state_of c)) x
  fits = rw (addresses_of c, writes-of c, barriers-of c) (unfold state_of in F)

  pub sound-after : Sound (effect (state_of c) x)
  sound-after = sound-step (state_of c).threads (length (state_of c).initials) (state_of c) G.sound x fits on

  pub within-after : Within (effect (state_of c) x)
  within-after = within_step (state_of c) G.within x fits

  -- the struct that holds the next state
  pub next_good : Good (held (effect (state_of c) x))
  next_good = good_held (effect (state_of c) x) sound-after within-after

  pub next-state : state_of (held (effect (state_of c) x)) ≡ effect (state_of c) x
  next-state = state_back (effect (state_of c) x) sound-after within-after

-- where an event is appended to thread t's list there was room for it
pub room : (s s' : State) (t : ℕ) (e : Event) → Sound s' → Within s' → t < length s.propagated → s'.propagated ≡ appended s.propagated t e
    → length (get_or s.propagated t []) < most_listed
unfolding events
room s s' t e S W h p =
    let longer : events s' t ≡ get_or s.propagated t [] ++ (e ∷ []) = ap (λ (ls : List (List Event)). get_or ls t []) p ∙ get_or-set_same s.propagated t _ [] h in
    let size : length (events s' t) ≡ length (get_or s.propagated t []) + 1 = ap length longer ∙ length-append (get_or s.propagated t []) (e ∷ []) in
    omega (arith, size, lists-few s' S W t)
