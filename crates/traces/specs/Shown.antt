-- The trace that a struct holds, and the model's answer as the struct that callers get.
-- Assumes nothing.
use Rattle.std.specs.Prelude.{◌≡◌, get_or}
use Rattle.finite.specs.Lists.{table}
use Rattle.storage_model.specs.Trace.{Trace, Step}
use Rattle.storage_model.specs.Subsystem.{State, initial}
use Rattle.storage_model.specs.Fits.{StepFits, Fits}
use Rattle.storage_model.specs.Answers.{Answer}
use Rattle.storage.specs.Held.{held}
use Rattle.storage.specs.declared.Storage.{Storage as Held}
use Rattle.trace_reader.specs.Held.{steps_of, held_trace}
use Rattle.trace_reader.specs.declared.Trace.{Trace as HeldTrace}
use Rattle.traces.specs.declared.TraceAnswer.{TraceAnswer}

-- the trace that a struct holds: all room beyond the counts is left out
unfoldable pub trace_of : HeldTrace → Trace
trace_of c = record {
  n = c.threads;
  m = c.addresses;
  initials = table 0 c.addresses (λ a. get_or c.initial a 0);
  steps = steps_of c;
}

-- the struct holds a trace that keeps the limits
pub record GoodTrace (c : HeldTrace) : Type 0 where
  pub same : c ≡ held_trace (trace_of c)
  pub fits : Fits (trace_of c)

-- a step keeps the limits where it stands
pub record Fitting (c : Held) (x : Step) : Type 0 where
  pub fits : StepFits c.threads c.addresses c.writes c.barriers x

-- the state before the trace's first step
unfoldable pub start_of : HeldTrace → State
start_of c = initial (trace_of c).n (trace_of c).initials

-- the answer by value
unfoldable pub trace_shown : Answer → TraceAnswer
trace_shown a = record {
  number = a.number;
  condition = a.condition;
  place = a.place;
  step = a.step;
  length = a.length;
  end = held a.end;
}
