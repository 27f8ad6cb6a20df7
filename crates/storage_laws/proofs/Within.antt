-- The state keeps the limits after every step that fits.
-- Assumes nothing.
use Prim.Native.Nat.{ℕ, suc, ◌≤◌}
use native.Mathlib.Omega.{arith}
use mathlib.Core.Path.{◌≡◌, refl, ◌∙◌}
use mathlib.Core.Bool.{Bool}
use mathlib.Core.List.{List, [], ◌∷◌, ◌++◌}
use lib.ListN.{length, get_or, length-set, length-replicate}
use Rattle.finite.specs.Lists.{table, All}
use Rattle.finite.proofs.Lists.{one_longer}
use Rattle.finite.proofs.All.{all_append}
use Rattle.model.specs.Limits.{most_threads, most_addresses, most_value}
use Rattle.storage_model.specs.Limits.{most_writes, most_barriers}
use Rattle.storage_model.specs.Trace.{Step, accept_write, accept_barrier, propagate_write, propagate_barrier, commit, respond, acknowledge}
use Rattle.storage_model.specs.Relation.{Relation, relation, related}
use Rattle.storage_model.specs.Subsystem.{State, Write, Barrier, Event, coherent, writes_seen, barriers_seen, committed, appended, followed, effect, initial}
use Rattle.storage_model.specs.Fits.{StepFits}
use Rattle.storage_model.specs.Sound.{Within, WriteWithin, BarrierWithin}
use Rattle.storage_laws.proofs.Relations.{closure-table}

-- as many lists as before
appended-length : (ls : List (List Event)) (t : ℕ) (e : Event) → length (appended ls t e) ≡ length ls
appended-length ls t e = length-set ls t (get_or ls t [] ++ (e ∷ []))

-- a state of as many threads and addresses: its writes, barriers and lists keep the limits
kept : (s : State) → Within s → (ws : List Write) (co : Relation) (bs : List Barrier) (ls : List (List Event)) (us : List Bool)
    → length ws ≤ most_writes → All (WriteWithin s.threads (length s.initials)) ws → co ≡ relation (length ws) (related co)
    → length bs ≤ most_barriers → All (BarrierWithin s.threads) bs → length ls ≡ length s.propagated
    → Within (record { threads = s.threads; initials = s.initials; writes = ws; coherence = co; barriers = bs; propagated = ls; unacknowledged = us })
unfolding coherent
kept s W ws co bs ls us lw hw hc lb hb e = record {
  threads = W.threads;
  addresses = W.addresses;
  initials = W.initials;
  few_writes = lw;
  writes = hw;
  few_barriers = lb;
  barriers = hb;
  lists = e ∙ W.lists;
  coherence = hc;
}

-- after a step that names what the state has seen, and has room for what it accepts
pub within_step : (s : State) → Within s → (x : Step) → StepFits s.threads (length s.initials) (writes_seen s) (barriers_seen s) x → Within (effect s x)
unfolding effect coherent followed committed
within_step s W (accept_write t a v) F =
    kept s W _ _ s.barriers _ _ (rw (one_longer s.writes) F.0)
    (all_append _ s.writes _ W.writes (record { thread = F.1; address = F.2; value = F.3 }, tt))
    (rw (one_longer s.writes) (closure-table (suc (writes_seen s)) _)) W.few_barriers W.barriers (appended-length s.propagated t _)
within_step s W (accept_barrier t c) F =
    kept s W s.writes s.coherence _ _ _ W.few_writes W.writes W.coherence (rw (one_longer s.barriers) F.0)
    (all_append _ s.barriers _ W.barriers (record { thread = F.1; class = F.2 }, tt)) (appended-length s.propagated t _)
within_step s W (propagate_write w t) F =
    kept s W s.writes s.coherence s.barriers _ _ W.few_writes W.writes W.coherence W.few_barriers W.barriers (appended-length s.propagated t _)
within_step s W (propagate_barrier b t) F =
    kept s W s.writes s.coherence s.barriers _ _ W.few_writes W.writes W.coherence W.few_barriers W.barriers (appended-length s.propagated t _)
within_step s W (commit x y) F =
    kept s W s.writes _ s.barriers s.propagated _ W.few_writes W.writes (closure-table (writes_seen s) _) W.few_barriers W.barriers refl
within_step s W (respond t a v) F = W
within_step s W (acknowledge b) F =
    kept s W s.writes s.coherence s.barriers s.propagated _ W.few_writes W.writes W.coherence W.few_barriers W.barriers refl

-- a step leaves the threads and the initial values
pub limits_stay : (s : State) (x : Step) → ((effect s x).threads ≡ s.threads) × ((effect s x).initials ≡ s.initials)
unfolding effect
limits_stay s (accept_write t a v) = (refl, refl)
limits_stay s (accept_barrier t c) = (refl, refl)
limits_stay s (propagate_write w t) = (refl, refl)
limits_stay s (propagate_barrier b t) = (refl, refl)
limits_stay s (commit x y) = (refl, refl)
limits_stay s (respond t a v) = (refl, refl)
limits_stay s (acknowledge b) = (refl, refl)

-- before the first step
pub within-initial : (n : ℕ) (initials : List ℕ) → n ≤ most_threads → length initials ≤ most_addresses → All (λ v. v ≤ most_value) initials → Within (initial n initials)
unfolding initial relation table
within-initial n initials hn hm hv = record {
  threads = hn;
  addresses = hm;
  initials = hv;
  few_writes = omega arith;
  writes = tt;
  few_barriers = omega arith;
  barriers = tt;
  lists = length-replicate n [];
  coherence = refl;
}
