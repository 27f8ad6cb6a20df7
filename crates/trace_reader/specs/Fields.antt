-- A step's fields read alike for every kind, and what the code's answers say.
-- Assumes nothing.
use Rattle.std.specs.Prelude.{ℕ, suc, ◌≡◌, Bool, cond, ◌||◌, List, map, eqb, Result, Ok, Err}
use Rattle.number.specs.Reader.{Out, Reader, give, ◌>>=◌, up_to, under, refused}
use Rattle.number.specs.declared.Refusal.{Refusal}
use Rattle.model.specs.Limits.{most_addresses, most_value}
use Rattle.storage_model.specs.Limits.{most_steps}
use Rattle.storage_model.specs.Trace.{Trace, Step, accept_write, accept_barrier, propagate_write, propagate_barrier, commit, respond, acknowledge, lwsync}
use Rattle.case.specs.Held.{pad}
use Rattle.reader.specs.Answers.{Done, Padded}
use Rattle.trace_reader.specs.Held.{kind_of, first_of, second_of, value_of, step_of, held_trace}
use Rattle.trace_reader.specs.Kinds.{number_of}
use Rattle.trace_reader.specs.declared.Step as code
use Rattle.trace_reader.specs.declared.Kind.{Kind}
use Rattle.trace_reader.specs.declared.Kind.TheVariants.{AcceptWrite, AcceptBarrier, PropagateWrite, PropagateBarrier, Commit, Respond, Acknowledge}
use Rattle.trace_reader.specs.declared.Trace.{Trace as Held}

-- how many there are of what the first field names: the threads, unless it names a write or a barrier
unfoldable pub first_count : (kind n w b : ℕ) → ℕ
first_count kind n w b = cond (eqb kind 3) w (cond (eqb kind 5) w (cond (eqb kind 4) b (cond (eqb kind 7) b n)))

-- accepting a write and a read response have a value
unfoldable pub has_value : (kind : ℕ) → Bool
has_value kind = eqb kind 1 || eqb kind 6

-- how many there are of what the second field names: the threads, unless it names an address, a class or a write
unfoldable pub second_count : (kind n m w : ℕ) → ℕ
second_count kind n m w = cond (has_value kind) m (cond (eqb kind 2) (suc lwsync) (cond (eqb kind 5) w n))

-- the value, behind the first two fields
unfoldable pub value_field : (kind first second : ℕ) → Reader Step
value_field kind x y = cond (has_value kind) (up_to most_value >>= λ v. give (step_of kind x y v)) (give (step_of kind x y 0))

-- the second field, one of so many, and the value
unfoldable pub second_field : (kind first count : ℕ) → Reader Step
second_field kind x count = do
  y ← under count
  value_field kind x y

-- all fields: acknowledging has the first alone
unfoldable pub any_fields : (kind firsts seconds : ℕ) → Reader Step
any_fields kind firsts seconds = do
  x ← under firsts
  cond (eqb kind 7) (give (step_of kind x 0 0)) (second_field kind x seconds)

-- the kind of a step
abbrev pub kind_in : Step → Kind
kind_in (accept_write t a v) = AcceptWrite
kind_in (accept_barrier t c) = AcceptBarrier
kind_in (propagate_write w t) = PropagateWrite
kind_in (propagate_barrier b t) = PropagateBarrier
kind_in (commit x y) = Commit
kind_in (respond t a v) = Respond
kind_in (acknowledge b) = Acknowledge

-- a step in the code's struct
abbrev pub held_step : Step → code.Step
held_step x = record { kind = kind_in x; first = first_of x; second = second_of x; value = value_of x }

-- the step that the code's struct holds
abbrev pub model_step : code.Step → Step
model_step v = step_of (number_of v.kind) v.first v.second v.value

-- the fields that the kind does not have are 0
abbrev pub Exact : code.Step → Type 0
Exact v = v ≡ held_step (model_step v)

-- the steps in four arrays
pub record Steps (kinds firsts seconds values : List ℕ) (xs : List Step) : Type 0 where
  pub kind : kinds ≡ pad most_steps (map kind_of xs)
  pub first : firsts ≡ pad most_steps (map first_of xs)
  pub second : seconds ≡ pad most_steps (map second_of xs)
  pub value : values ≡ pad most_steps (map value_of xs)

-- the counts of a trace, and its initial values and steps in arrays
pub record Listing (n m : ℕ) (initial kinds firsts seconds values : List ℕ) (t : Trace) : Type 0 where
  pub threads : n ≡ t.n
  pub addresses : m ≡ t.m
  pub initials : Padded most_addresses initial t.initials
  pub steps : Steps kinds firsts seconds values t.steps

-- a trace that was read is held by the struct
abbrev pub TraceRead : Out Trace → Result (Held × ℕ) Refusal → Type 0
TraceRead o (Ok r) = Done (λ t. r.0 ≡ held_trace t) o r.1
TraceRead o (Err e) = o ≡ refused e
