-- The conditions of acknowledging a sync, by the struct's arrays.
-- Assumes nothing.
use Prim.Native.Nat.{ℕ, ◌+◌}
use mathlib.Core.Path.{◌≡◌, sym, ap, ap₂, ◌∙◌}
use mathlib.Core.Bool.{Bool, true, false}
use lib.ListN.{get_or}
use borrow.Author.Tests.{eq-eqb, ne_eqb}
use Rattle.finite.specs.Tests.{all}
use Rattle.finite.proofs.Tests.{all_same}
use Rattle.model.specs.Rules.{or_else}
use Rattle.storage_model.specs.Limits.{most_writes}
use Rattle.storage_model.specs.Trace.{acknowledge}
use Rattle.storage_model.specs.Subsystem.{member, arrived, everywhere, failing}
use Rattle.storage.specs.Held.{state_of, event_of, list_at, Good}
use Rattle.storage.specs.declared.Storage.{Storage as Held}
use Rattle.storage.proofs.Events.{barrier_of}
use Rattle.storage.proofs.Means.{events-of, unacknowledged_of}

module _ (c : Held) (G : Good c) (b : ℕ) where
  -- an lwsync, or a sync that was acknowledged
  pub no_mark : (get_or c.unacknowledged b 0 ≡ 1 → ⊥) → 1 ≡ failing (state_of c) (acknowledge b)
  unfolding failing
  no_mark h =
      sym (ap (λ (p : Bool). or_else p 1 (or_else (everywhere (state_of c) b) 2 0)) (unacknowledged_of c G b ∙ ne_eqb (get_or c.unacknowledged b 0) 1 h))

  -- a sync that waits, by whether it is in every thread's list
  module _ (h : get_or c.unacknowledged b 0 ≡ 1) {x : ℕ} (e : x ≡ b + most_writes) {r : Bool}
      (told : r ≡ all c.threads (λ t. member (event_of x) (list_at c.listed c.events t))) where
    at_all : r ≡ everywhere (state_of c) b
    unfolding everywhere arrived state_of
    at_all = told ∙ all_same c.threads _ _ (λ t l. ap₂ member (ap event_of e ∙ barrier_of b) (sym (events-of c t l)))

    asked : (q : Bool) → r ≡ q → failing (state_of c) (acknowledge b) ≡ or_else q 2 0
    unfolding failing
    asked q g = ap₂ (λ (p t : Bool). or_else p 1 (or_else t 2 0)) (unacknowledged_of c G b ∙ eq-eqb (get_or c.unacknowledged b 0) 1 h) (sym at_all ∙ g)

    pub is_everywhere : r ≡ true → 0 ≡ failing (state_of c) (acknowledge b)
    is_everywhere g = sym (asked true g)

    pub not-everywhere : r ≡ false → 2 ≡ failing (state_of c) (acknowledge b)
    not-everywhere g = sym (asked false g)
