-- The struct that holds a trace, and the steps that a struct holds.
-- Assumes nothing.
use Rattle.std.specs.Prelude.{ℕ, cond, List, map, eqb, length, get_or, replicate}
use Rattle.finite.specs.Lists.{table}
use Rattle.number.specs.Reader.{Out, stop, next}
use Rattle.model.specs.Limits.{most_addresses}
use Rattle.storage_model.specs.Limits.{most_steps}
use Rattle.storage_model.specs.Trace.{Trace, Step, accept_write, accept_barrier, propagate_write, propagate_barrier, commit, respond, acknowledge}
use Rattle.case.specs.Held.{pad}
use Rattle.trace_reader.specs.declared.Trace.{Trace as Held}
use Rattle.trace_reader.specs.declared.TraceReading.{TraceReading}

-- a step's kind
abbrev pub kind_of : Step → ℕ
kind_of (accept_write t a v) = 1
kind_of (accept_barrier t c) = 2
kind_of (propagate_write w t) = 3
kind_of (propagate_barrier b t) = 4
kind_of (commit x y) = 5
kind_of (respond t a v) = 6
kind_of (acknowledge b) = 7

-- its fields "in the order named", 0 for those that the kind does not have
abbrev pub first_of : Step → ℕ
first_of (accept_write t a v) = t
first_of (accept_barrier t c) = t
first_of (propagate_write w t) = w
first_of (propagate_barrier b t) = b
first_of (commit x y) = x
first_of (respond t a v) = t
first_of (acknowledge b) = b

abbrev pub second_of : Step → ℕ
second_of (accept_write t a v) = a
second_of (accept_barrier t c) = c
second_of (propagate_write w t) = t
second_of (propagate_barrier b t) = t
second_of (commit x y) = y
second_of (respond t a v) = a
second_of (acknowledge b) = 0

abbrev pub value_of : Step → ℕ
value_of (accept_write t a v) = v
value_of (accept_barrier t c) = 0
value_of (propagate_write w t) = 0
value_of (propagate_barrier b t) = 0
value_of (commit x y) = 0
value_of (respond t a v) = v
value_of (acknowledge b) = 0

-- the step of a kind, 1 to 7, and such fields
unfoldable pub step_of : (kind first second value : ℕ) → Step
step_of kind x y v =
    cond (eqb kind 1) (accept_write x y v)
    (cond (eqb kind 2) (accept_barrier x y)
    (cond (eqb kind 3) (propagate_write x y)
    (cond (eqb kind 4) (propagate_barrier x y)
    (cond (eqb kind 5) (commit x y)
    (cond (eqb kind 6) (respond x y v)
    (acknowledge x))))))

-- the steps that a struct holds
unfoldable pub steps_of : Held → List Step
steps_of c = table 0 c.steps (λ i. step_of (get_or c.kind i 0) (get_or c.first i 0) (get_or c.second i 0) (get_or c.value i 0))

-- a trace in a struct: all room beyond the counts holds zero
unfoldable pub held_trace : Trace → Held
held_trace t = record {
  threads = t.n;
  addresses = t.m;
  initial = pad most_addresses t.initials;
  steps = length t.steps;
  kind = pad most_steps (map kind_of t.steps);
  first = pad most_steps (map first_of t.steps);
  second = pad most_steps (map second_of t.steps);
  value = pad most_steps (map value_of t.steps);
}

-- what stands beside a refusal
unfoldable pub empty_trace : Held
empty_trace = record {
  threads = 0;
  addresses = 0;
  initial = replicate most_addresses 0;
  steps = 0;
  kind = replicate most_steps 0;
  first = replicate most_steps 0;
  second = replicate most_steps 0;
  value = replicate most_steps 0;
}

-- what reading answers: the number and what goes with it; under a refusal the trace is empty
unfoldable pub reading_shown : Out Trace → TraceReading
reading_shown (stop x p) = record { number = x; place = p; length = 0; trace = empty_trace }
reading_shown (next t i) = record { number = 0; place = 0; length = i; trace = held_trace t }
