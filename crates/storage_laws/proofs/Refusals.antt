-- A trace's bytes are refused "with 1 to 3 as for records" (02 (ii)), at a place within them; what lies behind changes no refusal but 1.
-- Assumes nothing.
use Prim.Native.Nat.{ℕ, ◌≤◌}
use native.Mathlib.Omega.{arith}
use mathlib.Core.Path.{◌≡◌}
use mathlib.Core.List.{List, [], ◌++◌}
use lib.Dec.{eqb}
use lib.ListN.{length}
use Rattle.number.specs.Reader.{stop, times}
use Rattle.number.proofs.Forms.{WrongForm}
use Rattle.codec.proofs.Steady.{Stays, Steady, steady_bind, steady_last, steady_unless, steady_up_to, steady_within, steady_below, steady_under, steady_turns, steady_if}
use Rattle.storage_model.specs.Layout.{accept_write_fields, accept_barrier_fields, propagate_write_fields, propagate_barrier_fields, commit_fields, respond_fields, acknowledge_fields, fields, room_for, step, listing, trace, read_trace}

steady_step : (n m w b : ℕ) → Steady (step n m w b)
unfolding step fields accept_write_fields accept_barrier_fields propagate_write_fields propagate_barrier_fields commit_fields respond_fields acknowledge_fields
steady_step n m w b =
    steady_bind (steady_unless (room_for w b) (steady_within _ _)) (λ kind.
    steady_if (eqb kind 1) (steady_bind (steady_below n) (λ _. steady_bind (steady_below m) (λ _. steady_last _ (steady_up_to _))))
    (steady_if (eqb kind 2) (steady_bind (steady_below n) (λ _. steady_last _ (steady_up_to _)))
    (steady_if (eqb kind 3) (steady_bind (steady_under w) (λ _. steady_last _ (steady_below n)))
    (steady_if (eqb kind 4) (steady_bind (steady_under b) (λ _. steady_last _ (steady_below n)))
    (steady_if (eqb kind 5) (steady_bind (steady_under w) (λ _. steady_last _ (steady_under w)))
    (steady_if (eqb kind 6) (steady_bind (steady_below n) (λ _. steady_bind (steady_below m) (λ _. steady_last _ (steady_up_to _))))
    (steady_last _ (steady_under b))))))))

steady_trace : Steady trace
unfolding trace listing times
steady_trace =
    steady_bind (steady_within _ _) (λ n.
    steady_bind (steady_within _ _) (λ m.
    steady_bind (steady_turns m _ (λ _. steady_last _ (steady_up_to _)) []) (λ _.
    steady_bind (steady_up_to _) (λ i.
    steady_last _ (steady_turns i _ (λ _. steady_last _ (steady_step n m _ _)) [])))))

stays : (s : List ℕ) (x p : ℕ) → read_trace s ≡ stop x p → Stays trace s 0 (stop x p)
unfolding read_trace
stays s x p e = rw e at (steady_trace.run s 0 (omega arith))

-- under 2 the number there has a wrong form
pub refused_1_to_3 : (s : List ℕ) (x p : ℕ) → read_trace s ≡ stop x p → (1 ≤ x) × (x ≤ 3) × (p ≤ length s) × (x ≡ 2 → WrongForm s p)
refused_1_to_3 s x p e = (stays s x p e).0

-- a refusal other than 1 stays when further bytes follow
pub refusal_stays : (s : List ℕ) (x p : ℕ) → read_trace s ≡ stop x p → (x ≡ 1 → ⊥) → (t : List ℕ) → read_trace (s ++ t) ≡ stop x p
unfolding read_trace
refusal_stays s x p e = (stays s x p e).1
