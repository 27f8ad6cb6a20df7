-- A trace is bytes, and not longer than the limits allow; that many are reached.
-- Assumes nothing.
use Prim.Native.Nat.{ℕ, zero, suc, ◌-◌, ◌≤◌}
use native.Mathlib.Nat.{le_refl}
use native.Mathlib.Omega.{arith}
use mathlib.Core.Path.{◌≡◌, refl, sym}
use mathlib.Core.List.{List, [], ◌∷◌, ◌++◌}
use lib.Dec.{lit<, lit≤}
use lib.ListN.{length}
use Rattle.finite.specs.Lists.{table, each, All}
use Rattle.finite.proofs.Lists.{table-length}
use Rattle.finite.proofs.All.{all_map, all-table}
use Rattle.number.specs.Number.{encode_by, encode, size, Bytes}
use Rattle.model.specs.Limits.{most_threads, most_addresses, most_value}
use Rattle.codec.proofs.Few.{Few, ◌then◌, few_up_to, few_wider, few-each}
use Rattle.storage_model.specs.Limits.{most_kind, most_steps, most_writes, most_barriers}
use Rattle.storage_model.specs.Trace.{Trace, Step, accept_write, accept_barrier, propagate_write, propagate_barrier, commit, respond, acknowledge, lwsync, writes_in, barriers_in}
use Rattle.storage_model.specs.Written.{step_bytes, trace_bytes}
use Rattle.storage_model.specs.Bound.{most_step_bytes, most_trace_bytes}
use Rattle.storage_model.specs.Fits.{StepFits, StepsFit, Fits}
use Rattle.storage_laws.proofs.Counts.{FewEvents, few-none, few-grown}

module _ (n m : ℕ) (hn : n ≤ most_threads) (hm : m ≤ most_addresses) where
  few-step : (w b : ℕ) → w ≤ most_writes → b ≤ most_barriers → (x : Step) → StepFits n m w b x → Few (step_bytes x) most_step_bytes
  unfolding step_bytes most_step_bytes encode encode_by
  few-step w b hw hb (accept_write t a v) F =
      few_up_to 1 most_kind (lit≤ tt) then few_up_to t (most_threads - 1) (omega (arith, F.1)) then few_up_to a (most_addresses - 1) (omega (arith, F.2)) then few_up_to v most_value F.3
  few-step w b hw hb (accept_barrier t c) F =
      few_wider _ (few_up_to 2 most_kind (lit≤ tt) then few_up_to t (most_threads - 1) (omega (arith, F.1)) then few_up_to c lwsync F.2) (lit≤ tt)
  few-step w b hw hb (propagate_write x t) F =
      few_wider _ (few_up_to 3 most_kind (lit≤ tt) then few_up_to x most_writes (omega (arith, F.0)) then few_up_to t (most_threads - 1) (omega (arith, F.1))) (lit≤ tt)
  few-step w b hw hb (propagate_barrier x t) F =
      few_wider _ (few_up_to 4 most_kind (lit≤ tt) then few_up_to x most_barriers (omega (arith, F.0)) then few_up_to t (most_threads - 1) (omega (arith, F.1))) (lit≤ tt)
  few-step w b hw hb (commit x y) F =
      few_wider _ (few_up_to 5 most_kind (lit≤ tt) then few_up_to x most_writes (omega (arith, F.0)) then few_up_to y most_writes (omega (arith, F.1))) (lit≤ tt)
  few-step w b hw hb (respond t a v) F =
      few_up_to 6 most_kind (lit≤ tt) then few_up_to t (most_threads - 1) (omega (arith, F.0)) then few_up_to a (most_addresses - 1) (omega (arith, F.1)) then few_up_to v most_value F.2
  few-step w b hw hb (acknowledge x) F = few_wider _ (few_up_to 7 most_kind (lit≤ tt) then few_up_to x most_barriers (omega (arith, F))) (lit≤ tt)

  few-steps : (before xs : List Step) → FewEvents (writes_in before) (barriers_in before) → StepsFit n m before xs → All (λ x. Few (step_bytes x) most_step_bytes) xs
  few-steps before [] l F = tt
  few-steps before (x ∷ xs) l F = (
    few-step (writes_in before) (barriers_in before) l.0 l.1 x F.0,
    few-steps (before ++ (x ∷ [])) xs (few-grown n m before x F.0 l) F.1,
  )

few-trace : (t : Trace) → Fits t → Few (trace_bytes t) most_trace_bytes
unfolding trace_bytes most_trace_bytes
few-trace t F =
    few_up_to t.n most_threads F.n_most then few_up_to t.m most_addresses F.m_most
    then few-each encode (size most_value) t.initials (all_map _ _ (λ v l. few_up_to v most_value l) t.initials F.initials) most_addresses (rw (← F.m) F.m_most)
    then few_up_to (length t.steps) most_steps F.steps_most
    then few-each step_bytes most_step_bytes t.steps
    (few-steps t.n t.m F.n_most F.m_most [] t.steps few-none F.steps) most_steps F.steps_most

-- a trace takes at most so many bytes
pub trace_most : (t : Trace) → Fits t → length (trace_bytes t) ≤ most_trace_bytes
trace_most t F = (few-trace t F).most

-- each of them is a byte
pub bytes_of_trace : (t : Trace) → Fits t → Bytes (trace_bytes t)
bytes_of_trace t F = (few-trace t F).bytes

-- with the limits as they are
pub most_is : most_trace_bytes ≡ 1048
unfolding most_trace_bytes most_step_bytes encode encode_by
most_is = refl

-- ---- the most bytes are reached

-- 128 read responses with the greatest value
unfoldable pub greatest : Trace
greatest = record {
  n = most_threads;
  m = most_addresses;
  initials = table 0 most_addresses (λ _. most_value);
  steps = table 0 most_steps (λ _. respond (most_threads - 1) (most_addresses - 1) most_value);
}

responses_fit : (i j : ℕ) (before : List Step) → StepsFit most_threads most_addresses before (table i j (λ _. respond (most_threads - 1) (most_addresses - 1) most_value))
unfolding table
responses_fit i zero before = tt
responses_fit i (suc j) before = ((lit< tt, lit< tt, le_refl most_value), responses_fit (suc i) j (before ++ (respond (most_threads - 1) (most_addresses - 1) most_value ∷ [])))

-- it keeps the limits
pub greatest_fits : Fits greatest
unfolding greatest
greatest_fits = record {
  n_least = lit≤ tt;
  n_most = le_refl most_threads;
  m_least = lit≤ tt;
  m_most = le_refl most_addresses;
  m = sym (table-length 0 most_addresses _);
  initials = all-table (λ v. v ≤ most_value) 0 most_addresses (λ _. most_value) (λ _ _. le_refl most_value);
  steps_most = rw (table-length 0 most_steps) (le_refl most_steps);
  steps = responses_fit 0 most_steps [];
}

-- and takes the most bytes
pub most_reached : length (trace_bytes greatest) ≡ most_trace_bytes
unfolding greatest table each encode encode_by step_bytes trace_bytes most_trace_bytes most_step_bytes
most_reached = refl
