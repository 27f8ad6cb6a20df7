-- A sync is acknowledged at most once, and an lwsync never.
-- Assumes nothing.
use Prim.Native.Nat.{ℕ, ◌<◌}
use native.Mathlib.Omega.{arith}
use native.Mathlib.Decide.{dec_lt, ℕ_discrete}
use mathlib.Core.Path.{◌≡◌, sym, ap, ◌∙◌, subst}
use mathlib.Core.Bool.{true, false, true≢false, false≢true}
use mathlib.Core.List.{List, [], ◌∷◌, ◌++◌}
use lib.Dec.{eqb}
use lib.ListN.{length, get_or, set, length-append, length-set, get_or-append, get_or-eq_default}
use lib.Seq.{get_or-set_same, get_or-set_other}
use Rattle.finite.proofs.Tests.{and_l, is_false}
use Rattle.storage_model.specs.Trace.{Trace, Step, accept_write, accept_barrier, propagate_write, propagate_barrier, commit, respond, acknowledge, sync, lwsync}
use Rattle.storage_model.specs.Subsystem.{State, class, unacknowledged_sync, everywhere, enabled, effect, initial, accepted, run}
use Rattle.storage_model.specs.Sound.{Sound}
use Rattle.storage_model.specs.Runs.{Enabled}
use Rattle.storage_laws.proofs.Run.{accepted-iff}

-- acknowledging is enabled only for a sync that has not been acknowledged
asks : (s : State) (b : ℕ) → enabled s (acknowledge b) ≡ true → unacknowledged_sync s b ≡ true
unfolding enabled
asks s b h = and_l (unacknowledged_sync s b) (everywhere s b) h

-- "Acknowledging an lwsync .. is never enabled"
pub never_lwsync : (s : State) → Sound s → (b : ℕ) → class s b ≡ lwsync → enabled s (acknowledge b) ≡ false
never_lwsync s S b e = is_false (λ h. omega (arith, S.syncs.syncs b (asks s b h), e))

-- the sync b has been acknowledged
record Acknowledged (s : State) (b : ℕ) : Type 0 where
  seen : b < length s.unacknowledged
  done : unacknowledged_sync s b ≡ false

-- it stays so
acknowledged_step : (s : State) (b : ℕ) (x : Step) → Acknowledged s b → Acknowledged (effect s x) b
unfolding effect unacknowledged_sync
acknowledged_step s b (accept_write t a v) A = record { seen = A.seen; done = A.done }
acknowledged_step s b (accept_barrier t c) A = record {
  seen = rw length-append (omega (arith, A.seen));
  done = get_or-append s.unacknowledged (eqb c sync ∷ []) false b A.seen ∙ A.done;
}
acknowledged_step s b (propagate_write w t) A = record { seen = A.seen; done = A.done }
acknowledged_step s b (propagate_barrier c t) A = record { seen = A.seen; done = A.done }
acknowledged_step s b (commit x y) A = record { seen = A.seen; done = A.done }
acknowledged_step s b (respond t a v) A = A
acknowledged_step s b (acknowledge c) A = record { seen = rw length-set A.seen; done = by (ℕ_discrete b c) }
  where
    by : Dec (b ≡ c) → get_or (set s.unacknowledged c false) b false ≡ false
    by (yes e) =
        ap (λ (i : ℕ). get_or (set s.unacknowledged c false) i false) e
        ∙ get_or-set_same s.unacknowledged c false false (subst (λ (i : ℕ). i < length s.unacknowledged) e A.seen)
    by (no d) = get_or-set_other s.unacknowledged c b false false d ∙ A.done

-- after an enabled step that acknowledges b
acknowledges : (s : State) (b : ℕ) → enabled s (acknowledge b) ≡ true → Acknowledged (effect s (acknowledge b)) b
unfolding effect unacknowledged_sync
acknowledges s b h = by (dec_lt b (length s.unacknowledged))
  where
    by : Dec (b < length s.unacknowledged) → Acknowledged (effect s (acknowledge b)) b
    by (yes l) = record { seen = rw length-set l; done = get_or-set_same s.unacknowledged b false false l }
    by (no d) = absurd (false≢true (sym (get_or-eq_default s.unacknowledged false (omega arith)) ∙ asks s b h))

never_again : (s e : State) (b : ℕ) (xs ys : List Step) → Acknowledged s b → Enabled s (xs ++ (acknowledge b ∷ ys)) e → ⊥
never_again s e b [] ys A h = true≢false (sym (asks s b h.0) ∙ A.done)
never_again s e b (x ∷ xs) ys A h = never_again (effect s x) e b xs ys (acknowledged_step s b x A) h.1

once : (s e : State) (b : ℕ) (xs ys zs : List Step) → Enabled s (xs ++ (acknowledge b ∷ (ys ++ (acknowledge b ∷ zs)))) e → ⊥
once s e b [] ys zs h = never_again (effect s (acknowledge b)) e b ys zs (acknowledges s b h.0) h.1
once s e b (x ∷ xs) ys zs h = once (effect s x) e b xs ys zs h.1

-- no two steps of an accepted trace acknowledge one barrier: "a sync again, is never enabled"
pub acknowledged_once : (t : Trace) (s : State) → run t ≡ accepted s → (b : ℕ) (xs ys zs : List Step)
    → t.steps ≡ xs ++ (acknowledge b ∷ (ys ++ (acknowledge b ∷ zs))) → ⊥
acknowledged_once t s h b xs ys zs e =
    once (initial t.n t.initials) s b xs ys zs
    (subst (λ (l : List Step). Enabled (initial t.n t.initials) l s) e ((accepted-iff t s).0 h))
