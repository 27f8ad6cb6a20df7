-- What judging a trace answers, for all bytes (02 (ii)).
-- Assumes nothing.
use Rattle.std.specs.Prelude.{ℕ, List, []}
use Rattle.number.specs.Reader.{Out, stop, next}
use Rattle.storage_model.specs.Trace.{Trace}
use Rattle.storage_model.specs.Subsystem.{State, initial, Ran, refused, accepted, run}
use Rattle.storage_model.specs.Layout.{read_trace}

-- 02 (ii): "An accepted trace's end state is part of the answer; otherwise it is zero."; 01: "Fields not named in a row are 0"
pub record Answer : Type 0 where
  pub number : ℕ
  -- where a number is refused with 1 to 3
  pub place : ℕ
  -- under 31, the first step that is not enabled, and the first of its conditions that fails
  pub step : ℕ
  pub condition : ℕ
  pub length : ℕ
  pub end : State

-- the state that is zero: no threads and nothing else
abbrev pub no_state : State
no_state = initial 0 []

-- 02 (ii): "otherwise 31 and the first step that isn't, counted from 0"
abbrev pub ran_answer : (length : ℕ) → Ran → Answer
ran_answer i (refused x c) = record { number = 31; place = 0; step = x; condition = c; length = 0; end = no_state }
ran_answer i (accepted s) = record { number = 0; place = 0; step = 0; condition = 0; length = i; end = s }

-- 02 (ii): "All is read, with 1 to 3 as for records, before a step is judged."
abbrev pub judge_trace_out : Out Trace → Answer
judge_trace_out (stop x p) = record { number = x; place = p; step = 0; condition = 0; length = 0; end = no_state }
judge_trace_out (next t i) = ran_answer i (run t)

unfoldable pub judge_trace : List ℕ → Answer
judge_trace s = judge_trace_out (read_trace s)
