-- The ways through `judge`.
-- Assumes nothing.
use Prim.Native.Nat.{ℕ}
use mathlib.Core.Path.{◌≡◌, sym, ap, ◌∙◌, subst}
use mathlib.Core.List.{List}
use Rattle.number.specs.Reader.{Out, refused}
use Rattle.number.specs.declared.Refusal.{Refusal}
use Rattle.model.specs.Limits.{most_addresses}
use Rattle.storage_model.specs.Trace.{Trace}
use Rattle.storage_model.specs.Subsystem.{run}
use Rattle.storage_model.specs.Fits.{Fits}
use Rattle.storage_model.specs.Layout.{read_trace}
use Rattle.storage_model.specs.Answers.{ran_answer, judge_trace_out, judge_trace}
use Rattle.storage_laws.proofs.Exact.{readable-iff}
use Rattle.case.proofs.Pad.{pad_get}
use Rattle.case.proofs.HeldBack.{back}
use Rattle.reader.proofs.Bytes.{Octets, slice_bytes}
use Rattle.trace_reader.specs.Held.{held_trace}
use Rattle.trace_reader.specs.declared.Trace.{Trace as HeldTrace}
use Rattle.reader.specs.Answers.{Done}
use Rattle.trace_reader.proofs.HeldBack.{steps_back}
use Rattle.traces.specs.Shown.{trace_of, GoodTrace, trace_shown}
use Rattle.traces.specs.declared.TraceAnswer.{TraceAnswer}

-- the struct that holds a trace means that trace
trace_back : (t : Trace) → Fits t → trace_of (held_trace t) ≡ t
unfolding trace_of held_trace
trace_back t F =
    let initials : (trace_of (held_trace t)).initials ≡ t.initials =
    back t.initials 0 t.m _ (sym F.m) (λ a h. pad_get most_addresses t.initials a (rw (← F.m) h)) in
    λ i. record { n = t.n; m = t.m; initials = initials i; steps = steps_back t i }

-- and is good
good_held : (t : Trace) → Fits t → GoodTrace (held_trace t)
good_held t F = record { same = ap held_trace (sym (trace_back t F)); fits = subst Fits (sym (trace_back t F)) F }

module _ (s : List ℕ) where
  module _ (b : Octets s) (c : HeldTrace) (p : ℕ) (found : Done (λ t. c ≡ held_trace t) (read_trace s) p) where
    fits : Fits found.what
    fits = ((readable-iff s (slice_bytes s b) found.what p).0 found.is).0

    -- the struct that a reading gives is good
    pub good_read : GoodTrace c
    good_read = subst GoodTrace (sym found.stored) (good_held found.what fits)

    -- the answer of its run is that about the bytes
    pub judged : (a : TraceAnswer) → a ≡ trace_shown (ran_answer p (run (trace_of c))) → a ≡ trace_shown (judge_trace s)
    unfolding judge_trace
    judged a h =
        let same : trace_of c ≡ found.what = ap trace_of found.stored ∙ trace_back found.what fits in
        h ∙ ap (λ (t : Trace). trace_shown (ran_answer p (run t))) same ∙ ap (λ (o : Out Trace). trace_shown (judge_trace_out o)) (sym found.is)

  -- a refusal is the answer
  pub not-judged : (e : Refusal) → read_trace s ≡ refused e → (a : TraceAnswer) → a ≡ trace_shown (judge_trace_out (refused e)) → a ≡ trace_shown (judge_trace s)
  unfolding judge_trace
  not-judged e g a h = h ∙ ap (λ (o : Out Trace). trace_shown (judge_trace_out o)) (sym g)
