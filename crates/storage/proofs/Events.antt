-- The numbers of events in a thread's list.
-- Assumes nothing.
use Prim.Native.Nat.{ℕ, ◌+◌, ◌-◌, ◌≤◌, ◌<◌}
use native.Mathlib.Omega.{arith}
use native.Mathlib.Decide.{dec_lt}
use mathlib.Core.Path.{◌≡◌, refl, sym, ap, ◌∙◌, subst}
use mathlib.Core.Bool.{true}
use lib.Dec.{eqb}
use borrow.Author.Tests.{lt-ltb, le-ltb, eq-eqb, eqb-true}
use Rattle.finite.proofs.Tests.{iff, eqb_sym}
use Rattle.storage_model.specs.Limits.{most_writes, most_barriers, most_listed}
use Rattle.storage_model.specs.Subsystem.{Event, write, barrier, same}
use Rattle.storage_laws.proofs.Lists.{same_refl, same_is}
use Rattle.storage.specs.Held.{event_of, entry_of}

-- the event of a write's number
pub write_of : (w : ℕ) → w < most_writes → event_of w ≡ write w
unfolding event_of
write_of w l = rw (lt-ltb w most_writes l)

-- and of a barrier's
pub barrier_at : (x : ℕ) → most_writes ≤ x → event_of x ≡ barrier (x - most_writes)
unfolding event_of
barrier_at x l = rw (le-ltb x most_writes l)

pub barrier_of : (b : ℕ) → event_of (b + most_writes) ≡ barrier b
barrier_of b = barrier_at (b + most_writes) (omega arith) ∙ ap barrier (omega arith)

-- an event's number means the event
pub event_back : (e : Event) → ((w : ℕ) → e ≡ write w → w < most_writes) → event_of (entry_of e) ≡ e
unfolding entry_of
event_back (write w) h = write_of w (h w refl)
event_back (barrier b) h = barrier_of b

-- each number is that of its event
pub entry_back : (x : ℕ) → entry_of (event_of x) ≡ x
unfolding entry_of
entry_back x = by (dec_lt x most_writes)
  where
    by : Dec (x < most_writes) → entry_of (event_of x) ≡ x
    by (yes l) = ap entry_of (write_of x l)
    by (no d) = ap entry_of (barrier_at x (omega arith)) ∙ omega arith

-- two entries name one event where they are one number; the second says the same of an entry e that was read
pub same_entry : (x y : ℕ) → same (event_of x) (event_of y) ≡ eqb x y
same_entry x y =
    iff
    (λ h. eq-eqb x y (sym (entry_back x) ∙ ap entry_of (same_is (event_of x) (event_of y) h) ∙ entry_back y))
    (λ h. subst (λ (z : ℕ). same (event_of x) (event_of z) ≡ true) (eqb-true x y h) (same_refl (event_of x)))

pub is_entry : {e y : ℕ} (x : ℕ) → e ≡ y → same (event_of x) (event_of y) ≡ eqb e x
is_entry {e} {y} x h = same_entry x y ∙ ap (eqb x) (sym h) ∙ eqb_sym x e

-- the numbers of writes and barriers that keep the limits
pub entry_low : (e : Event) → ((w : ℕ) → e ≡ write w → w < most_writes) → ((b : ℕ) → e ≡ barrier b → b < most_barriers) → entry_of e < most_listed
unfolding entry_of
entry_low (write w) h g = let l = h w refl in omega (arith, l)
entry_low (barrier b) h g = let l = g b refl in omega (arith, l)
