-- What is written of a trace is read back.
-- Assumes nothing.
use Prim.Native.Nat.{ℕ, ◌≤◌, ◌<◌, ◌^◌}
use native.Mathlib.Nat.{zero-add}
use native.Mathlib.Omega.{arith}
use mathlib.Core.Path.{◌≡◌, refl, ap, ◌∙◌}
use mathlib.Core.Bool.{true}
use mathlib.Core.List.{List, [], ◌∷◌, ◌++◌}
use lib.Dec.{lit<, lit≤}
use lib.ListN.{length}
use borrow.Author.Tests.{lt-ltb}
use Rattle.finite.specs.Lists.{each}
use Rattle.finite.proofs.All.{all_map}
use Rattle.number.specs.Number.{encode, groups}
use Rattle.number.specs.Reader.{next, times, up_to}
use Rattle.model.specs.Limits.{most_threads, most_addresses, most_value}
use Rattle.codec.proofs.ReadsAs.{ReadsAs, reads_bind, reads_last, reads_unless, reads_up_to, reads_within, reads_below, reads_under, Steps, reads_turns, reads_times}
use Rattle.storage_model.specs.Limits.{most_kind, most_steps, most_writes, most_barriers}
use Rattle.storage_model.specs.Trace.{Trace, Step, accept_write, accept_barrier, propagate_write, propagate_barrier, commit, respond, acknowledge, lwsync, writes_in, barriers_in}
use Rattle.storage_model.specs.Layout.{accept_write_fields, accept_barrier_fields, propagate_write_fields, propagate_barrier_fields, commit_fields, respond_fields, acknowledge_fields, fields, room_for, step, listing, trace, read_trace}
use Rattle.storage_model.specs.Written.{step_bytes, trace_bytes}
use Rattle.storage_model.specs.Fits.{StepFits, StepsFit, Fits}
use Rattle.storage_laws.proofs.Counts.{FewEvents, few-none, few-grown}

-- counts of writes and barriers that a number can say
module _ (n m w b : ℕ) (hn : n ≤ 128 ^ groups) (hm : m ≤ 128 ^ groups) (hw : w < 128 ^ groups) (hb : b < 128 ^ groups) where
  -- a step of the kind, with room for it
  of_kind : (kind : ℕ) (bs : List ℕ) (x : Step) → 1 ≤ kind → kind ≤ most_kind → room_for w b kind ≡ true
      → ReadsAs (fields n m w b kind) bs x → ReadsAs (step n m w b) (encode kind ++ bs) x
  unfolding step
  of_kind kind bs x lo hi room p = reads_bind _ (reads_unless 3 (room_for w b) (reads_within 1 most_kind kind lo hi (lit< tt)) room) p

  reads_step : (x : Step) → StepFits n m w b x → ReadsAs (step n m w b) (step_bytes x) x
  unfolding step_bytes fields room_for accept_write_fields accept_barrier_fields propagate_write_fields propagate_barrier_fields commit_fields respond_fields acknowledge_fields
  reads_step (accept_write t a v) F =
      of_kind 1 _ _ (lit≤ tt) (lit≤ tt) (rw (lt-ltb w most_writes F.0))
      (reads_bind _ (reads_below n t F.1 hn) (reads_bind _ (reads_below m a F.2 hm) (reads_last _ (reads_up_to most_value v F.3 (lit< tt)))))
  reads_step (accept_barrier t c) F =
      of_kind 2 _ _ (lit≤ tt) (lit≤ tt) (rw (lt-ltb b most_barriers F.0))
      (reads_bind _ (reads_below n t F.1 hn) (reads_last _ (reads_up_to lwsync c F.2 (lit< tt))))
  reads_step (propagate_write x t) F =
      of_kind 3 _ _ (lit≤ tt) (lit≤ tt) refl (reads_bind _ (reads_under w x F.0 hw) (reads_last _ (reads_below n t F.1 hn)))
  reads_step (propagate_barrier x t) F =
      of_kind 4 _ _ (lit≤ tt) (lit≤ tt) refl (reads_bind _ (reads_under b x F.0 hb) (reads_last _ (reads_below n t F.1 hn)))
  reads_step (commit x y) F =
      of_kind 5 _ _ (lit≤ tt) (lit≤ tt) refl (reads_bind _ (reads_under w x F.0 hw) (reads_last _ (reads_under w y F.1 hw)))
  reads_step (respond t a v) F =
      of_kind 6 _ _ (lit≤ tt) (lit≤ tt) refl
      (reads_bind _ (reads_below n t F.0 hn) (reads_bind _ (reads_below m a F.1 hm) (reads_last _ (reads_up_to most_value v F.2 (lit< tt)))))
  reads_step (acknowledge x) F = of_kind 7 _ _ (lit≤ tt) (lit≤ tt) refl (reads_last _ (reads_under b x F hb))

steps_read : (n m : ℕ) → n ≤ 128 ^ groups → m ≤ 128 ^ groups → (before xs : List Step) → FewEvents (writes_in before) (barriers_in before)
    → StepsFit n m before xs → Steps (λ z. step n m (writes_in z) (barriers_in z)) step_bytes before xs
steps_read n m hn hm before [] l F = tt
steps_read n m hn hm before (x ∷ xs) l F = (
  reads_step n m (writes_in before) (barriers_in before) hn hm (omega (arith, l.0)) (omega (arith, l.1)) x F.0,
  steps_read n m hn hm (before ++ (x ∷ [])) xs (few-grown n m before x F.0 l) F.1,
)

-- its reader reads a trace's bytes as the trace
pub reads_trace : (t : Trace) → Fits t → ReadsAs trace (trace_bytes t) t
unfolding trace listing trace_bytes
reads_trace t F =
    let initials : ReadsAs (times t.m (up_to most_value)) (each encode t.initials) t.initials =
    rw F.m (reads_times (up_to most_value) encode t.initials (all_map _ _ (λ v l. reads_up_to most_value v l (lit< tt)) t.initials F.initials)) in
    reads_bind _ (reads_within 1 most_threads t.n F.n_least F.n_most (lit< tt))
    (reads_bind _ (reads_within 1 most_addresses t.m F.m_least F.m_most (lit< tt))
    (reads_bind _ initials
    (reads_bind _ (reads_up_to most_steps (length t.steps) F.steps_most (lit< tt))
    (reads_last _ (reads_turns (λ z. step t.n t.m (writes_in z) (barriers_in z)) step_bytes [] t.steps
    (steps_read t.n t.m (omega (arith, F.n_most)) (omega (arith, F.m_most)) [] t.steps few-none F.steps))))))

-- whatever lies behind it
pub read_back : (t : Trace) → Fits t → (rest : List ℕ) → read_trace (trace_bytes t ++ rest) ≡ next t (length (trace_bytes t))
unfolding read_trace
read_back t F rest = (reads_trace t F).run (trace_bytes t ++ rest) 0 rest (omega arith) refl ∙ ap (next t) (zero-add (length (trace_bytes t)))
