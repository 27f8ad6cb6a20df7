-- The room in a thread's list for an event that is accepted or propagated.
-- Assumes nothing.
use Prim.Native.Nat.{ℕ, ◌+◌, ◌≤◌, ◌<◌}
use native.Mathlib.Omega.{arith}
use mathlib.Core.Path.{◌≡◌, refl, ◌∙◌}
use mathlib.Core.Bool.{true}
use mathlib.Core.List.{[]}
use lib.ListN.{length, get_or}
use borrow.Author.Tests.{eq-eqb}
use Rattle.storage_model.specs.Limits.{most_listed}
use Rattle.storage_model.specs.Trace.{Step, propagate_write, propagate_barrier}
use Rattle.storage_model.specs.Subsystem.{State, Event, write, barrier, events, writes_seen, barriers_seen, appended, enabled, failing, effect}
use Rattle.storage_model.specs.Fits.{StepFits}
use Rattle.storage_laws.proofs.Failing.{enabled-failing}
use Rattle.storage_laws.proofs.Short.{lists-short}
use Rattle.storage.specs.Held.{state_of, Good}
use Rattle.storage.specs.declared.Storage.{Storage as Held}
use Rattle.storage.proofs.Means.{writes-of, barriers-of, lists_of}
use Rattle.storage.proofs.Next.{sound-after, within-after, room}
use Rattle.transitions.proofs.Effects.{list_of}

-- a step none of whose conditions fails is enabled
on : (s : State) (x : Step) → failing s x ≡ 0 → enabled s x ≡ true
on s x e = enabled-failing s x ∙ eq-eqb (failing s x) 0 e

module _ (c : Held) (G : Good c) (t : ℕ) (l : t < c.threads) where
  abbrev s : State
  s = state_of c

  -- a list has room while there are fewer writes or barriers than there may be
  pub room_new : c.writes + c.barriers < most_listed → get_or c.listed t 0 < most_listed
  room_new few =
      let n : length (get_or s.propagated t []) ≡ get_or c.listed t 0 = list_of c G t l in
      let m : length (get_or s.propagated t []) ≤ writes_seen s + barriers_seen s = unfold events in lists-short s G.sound t in
      omega (arith, n, m, few, writes-of c, barriers-of c)

  -- a list that an enabled step appends to had room
  room-behind : (x : Step) (e : Event) → StepFits c.threads c.addresses c.writes c.barriers x → failing s x ≡ 0
      → (effect s x).propagated ≡ appended s.propagated t e → get_or c.listed t 0 < most_listed
  room-behind x e F h p =
      rw (list_of c G t l) at (room s (effect s x) t e (sound-after c G x F (on s x h)) (within-after c G x F (on s x h)) (rw (lists_of c) l) p)

  pub room-write : (w : ℕ) → w < c.writes → failing s (propagate_write w t) ≡ 0 → get_or c.listed t 0 < most_listed
  room-write w lw h = room-behind (propagate_write w t) (write w) (lw, l) h (unfold effect in refl)

  pub room-barrier : (b : ℕ) → b < c.barriers → failing s (propagate_barrier b t) ≡ 0 → get_or c.listed t 0 < most_listed
  room-barrier b lb h = room-behind (propagate_barrier b t) (barrier b) (lb, l) h (unfold effect in refl)
