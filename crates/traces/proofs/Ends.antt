-- The state before the first step, and the answers that give no end state.
-- Assumes nothing.
use Prim.Native.Nat.{ℕ}
use native.Mathlib.Omega.{arith}
use mathlib.Core.Path.{◌≡◌, sym, ap, ◌∙◌}
use mathlib.Core.List.{[]}
use lib.ListN.{length}
use Rattle.model.specs.Limits.{most_addresses}
use Rattle.storage_model.specs.Answers.{no_state}
use Rattle.case.specs.Held.{pad}
use Rattle.storage.specs.Held.{held, empty_storage}
use Rattle.storage.specs.declared.Storage.{Storage as Held}
use Rattle.storage.proofs.Start.{held-initial}
use Rattle.trace_reader.specs.Held.{held_trace}
use Rattle.trace_reader.specs.declared.Trace.{Trace as HeldTrace}
use Rattle.traces.specs.Shown.{trace_of, GoodTrace, start_of, trace_shown}
use Rattle.traces.specs.declared.TraceAnswer.{TraceAnswer}

-- the state that is zero is held by the empty struct
pub held_none : held no_state ≡ empty_storage
unfolding empty_storage pad
held_none = held-initial 0 [] (omega arith)

-- an answer without an end state
pub no_end : (number condition place step : ℕ) (e : Held) → e ≡ empty_storage
    → ◌≡◌ {A = TraceAnswer} (record { number = number; condition = condition; place = place; step = step; length = 0; end = e })
    (trace_shown (record { number = number; place = place; step = step; condition = condition; length = 0; end = no_state }))
unfolding trace_shown
no_end number condition place step e h =
    ap (λ (c : Held). record { number = number; condition = condition; place = place; step = step; length = 0; end = c }) (h ∙ sym held_none)

-- the struct before the first step
pub started : (c : HeldTrace) → GoodTrace c → (e : Held) → e ≡ empty_storage
    → ◌≡◌ {A = Held} (record {
      threads = c.threads;
      addresses = c.addresses;
      initial = c.initial;
      writes = e.writes;
      writer = e.writer;
      address = e.address;
      value = e.value;
      before = e.before;
      barriers = e.barriers;
      owner = e.owner;
      class = e.class;
      unacknowledged = e.unacknowledged;
      listed = e.listed;
      events = e.events;
    }) (held (start_of c))
unfolding start_of trace_of held_trace empty_storage
started c G e h =
    let size : c.addresses ≡ length (trace_of c).initials = G.fits.m in
    let values : c.initial ≡ pad most_addresses (trace_of c).initials = ap (λ (x : HeldTrace). x.initial) G.same in
    (λ i. record {
      threads = c.threads;
      addresses = size i;
      initial = values i;
      writes = (h i).writes;
      writer = (h i).writer;
      address = (h i).address;
      value = (h i).value;
      before = (h i).before;
      barriers = (h i).barriers;
      owner = (h i).owner;
      class = (h i).class;
      unacknowledged = (h i).unacknowledged;
      listed = (h i).listed;
      events = (h i).events;
    })
    ∙ sym (held-initial c.threads (trace_of c).initials G.fits.n_most)
