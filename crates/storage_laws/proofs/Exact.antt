-- What was read of a trace is what is written of it, and a refusal's place is within the bytes.
-- Assumes nothing.
use Prim.Native.Nat.{ℕ, ◌≤◌, ◌<◌}
use native.Mathlib.Nat.{zero-add}
use native.Mathlib.Omega.{arith}
use native.Mathlib.Decide.{ℕ_discrete}
use mathlib.Core.Path.{◌≡◌, refl, sym, ap, ◌∙◌, subst}
use mathlib.Core.Bool.{true}
use mathlib.Core.Logic.{◌↔◌}
use mathlib.Core.List.{List, [], ◌∷◌, ◌++◌}
use lib.Dec.{lit≤, ltb}
use lib.ListN.{length, take, drop}
use lib.Seq.{take_at}
use borrow.Author.Tests.{ltb-true}
use Rattle.finite.proofs.Tests.{and_l}
use Rattle.number.specs.Number.{encode, Bytes}
use Rattle.number.specs.Reader.{next}
use Rattle.model.specs.Limits.{most_threads, most_addresses, most_value}
use Rattle.codec.proofs.Exact.{Took, Malformed, Tells, Exact, As, exact_bind, exact_last, exact_unless, exact_up_to, exact_within, exact_below, exact_under, Along, grown, exact_list, exact_times}
use Rattle.storage_model.specs.Limits.{most_kind, most_steps, most_writes, most_barriers}
use Rattle.storage_model.specs.Trace.{Trace, Step, lwsync, writes_in, barriers_in}
use Rattle.storage_model.specs.Layout.{accept_write_fields, accept_barrier_fields, propagate_write_fields, propagate_barrier_fields, commit_fields, respond_fields, acknowledge_fields, fields, room_for, step, listing, trace, read_trace}
use Rattle.storage_model.specs.Written.{step_bytes, trace_bytes}
use Rattle.storage_model.specs.Fits.{StepFits, StepsFit, Fits}
use Rattle.storage_laws.proofs.ReadBack.{read_back}

-- of a refusal it is told what is malformed
told : Tells Malformed
told s x p m = m

module _ (n m w b : ℕ) (ln : 0 < n) (lm : 0 < m) where
  -- the fields of a step of the kind
  abbrev Of : ℕ → Type 0
  Of kind = Exact Malformed (fields n m w b kind) (λ x bs. As step_bytes (StepFits n m w b) x (encode kind ++ bs))

  kind_1 : w < most_writes → Of 1
  unfolding fields step_bytes accept_write_fields
  kind_1 l =
      exact_bind (exact_below told n ln) (λ t ht. exact_bind (exact_below told m lm) (λ a ha.
      exact_last _ _ (exact_up_to told most_value) (λ v hv. record { same = refl; fits = (l, ht, ha, hv) })))

  kind_2 : b < most_barriers → Of 2
  unfolding fields step_bytes accept_barrier_fields
  kind_2 l = exact_bind (exact_below told n ln) (λ t ht. exact_last _ _ (exact_up_to told lwsync) (λ c hc. record { same = refl; fits = (l, ht, hc) }))

  kind_3 : Of 3
  unfolding fields step_bytes propagate_write_fields
  kind_3 = exact_bind (exact_under told w) (λ x hx. exact_last _ _ (exact_below told n ln) (λ t ht. record { same = refl; fits = (hx, ht) }))

  kind_4 : Of 4
  unfolding fields step_bytes propagate_barrier_fields
  kind_4 = exact_bind (exact_under told b) (λ x hx. exact_last _ _ (exact_below told n ln) (λ t ht. record { same = refl; fits = (hx, ht) }))

  kind_5 : Of 5
  unfolding fields step_bytes commit_fields
  kind_5 = exact_bind (exact_under told w) (λ x hx. exact_last _ _ (exact_under told w) (λ y hy. record { same = refl; fits = (hx, hy) }))

  kind_6 : Of 6
  unfolding fields step_bytes respond_fields
  kind_6 =
      exact_bind (exact_below told n ln) (λ t ht. exact_bind (exact_below told m lm) (λ a ha.
      exact_last _ _ (exact_up_to told most_value) (λ v hv. record { same = refl; fits = (ht, ha, hv) })))

  kind_7 : Of 7
  unfolding fields step_bytes acknowledge_fields
  kind_7 = exact_last _ _ (exact_under told b) (λ x hx. record { same = refl; fits = hx })

  room-write : room_for w b 1 ≡ true → w < most_writes
  unfolding room_for
  room-write h = ltb-true w most_writes (and_l (ltb w most_writes) true h)

  room-barrier : room_for w b 2 ≡ true → b < most_barriers
  unfolding room_for
  room-barrier h = ltb-true b most_barriers h

  by_kind : (kind : ℕ) → 1 ≤ kind → kind ≤ most_kind → room_for w b kind ≡ true → Of kind
  by_kind kind lo hi room =
      by (ℕ_discrete kind 1) (ℕ_discrete kind 2) (ℕ_discrete kind 3) (ℕ_discrete kind 4) (ℕ_discrete kind 5) (ℕ_discrete kind 6)
    where
      at : (k : ℕ) → kind ≡ k → Of k → Of kind
      at k e p = subst Of (sym e) p

      by : Dec (kind ≡ 1) → Dec (kind ≡ 2) → Dec (kind ≡ 3) → Dec (kind ≡ 4) → Dec (kind ≡ 5) → Dec (kind ≡ 6) → Of kind
      by (yes e) _ _ _ _ _ = at 1 e (kind_1 (room-write (subst (λ (k : ℕ). room_for w b k ≡ true) e room)))
      by (no c) (yes e) _ _ _ _ = at 2 e (kind_2 (room-barrier (subst (λ (k : ℕ). room_for w b k ≡ true) e room)))
      by (no c) (no d) (yes e) _ _ _ = at 3 e kind_3
      by (no c) (no d) (no f) (yes e) _ _ = at 4 e kind_4
      by (no c) (no d) (no f) (no g) (yes e) _ = at 5 e kind_5
      by (no c) (no d) (no f) (no g) (no h) (yes e) = at 6 e kind_6
      by (no c) (no d) (no f) (no g) (no h) (no i) = at 7 (omega arith) kind_7

  exact_step : Exact Malformed (step n m w b) (As step_bytes (StepFits n m w b))
  unfolding step
  exact_step =
      exact_bind (exact_unless told 3 (room_for w b) (lit≤ tt) (lit≤ tt) (exact_within told 1 most_kind)) (λ kind h. by_kind kind h.0.0 h.0.1 h.1)

along_fits : (n m : ℕ) (before xs : List Step) → Along grown (λ z x. StepFits n m (writes_in z) (barriers_in z) x) before xs → StepsFit n m before xs
along_fits n m before [] h = tt
along_fits n m before (x ∷ xs) h = (h.0, along_fits n m (before ++ (x ∷ [])) xs h.1)

-- what the reader reads is a trace that fits, and the bytes are its own
pub exact_trace : Exact Malformed trace (As trace_bytes Fits)
unfolding trace listing trace_bytes
exact_trace =
    exact_bind (exact_within told 1 most_threads) (λ n hn.
    exact_bind (exact_within told 1 most_addresses) (λ m hm.
    exact_bind (exact_times (exact_up_to told most_value) m) (λ initials hi.
    exact_bind (exact_up_to told most_steps) (λ i h.
    exact_last _ _
    (exact_list (λ z. step n m (writes_in z) (barriers_in z)) step_bytes (λ z x. StepFits n m (writes_in z) (barriers_in z) x)
    (λ z. exact_step n m (writes_in z) (barriers_in z) hn.0 hm.0) i)
    (λ xs hs. record {
      same = rw hs.0;
      fits = record {
        n_least = hn.0;
        n_most = hn.1;
        m_least = hm.0;
        m_most = hm.1;
        m = sym hi.0;
        initials = hi.1;
        steps_most = rw hs.0 h;
        steps = along_fits n m [] xs hs.1;
      };
    })))))

-- reading succeeds at the bytes of traces that keep the limits, and nowhere else
pub readable-iff : (s : List ℕ) → Bytes s → (t : Trace) (i : ℕ)
    → (read_trace s ≡ next t i) ↔ (Fits t × (s ≡ trace_bytes t ++ drop i s) × (i ≡ length (trace_bytes t)))
unfolding read_trace
readable-iff s h t i = (
  λ e.
      let K : Took (As trace_bytes Fits) s 0 t i = rw e at (exact_trace.run s 0 h (omega arith)) in
      (K.holds.fits, K.whole ∙ ap (λ (l : List ℕ). l ++ drop i s) K.holds.same, K.place ∙ zero-add _ ∙ ap length K.holds.same),
  λ r. ap read_trace r.1 ∙ read_back t r.0 (drop i s) ∙ ap (next t) (sym r.2),
)

-- a trace is read by its bytes alone, whatever lies behind them
pub read_front : (s : List ℕ) → Bytes s → (t : Trace) (i : ℕ) → read_trace s ≡ next t i → (rest : List ℕ) → read_trace (take i s ++ rest) ≡ next t i
read_front s h t i e rest =
    let r = (readable-iff s h t i).0 e in
    let front : take i s ≡ trace_bytes t = ap (take i) r.1 ∙ take_at (trace_bytes t) (drop i s) i (sym r.2) in
    rw front (read_back t r.0 rest ∙ ap (next t) (sym r.2))

-- traces with the same bytes are the same
pub bytes_injective : (t u : Trace) → Fits t → Fits u → trace_bytes t ≡ trace_bytes u → t ≡ u
bytes_injective t u F G e =
    let p = read_back t F [] in
    let q = read_back u G [] in
    let r : read_trace (trace_bytes t ++ []) ≡ read_trace (trace_bytes u ++ []) = ap (λ (l : List ℕ). read_trace (l ++ [])) e in
    cc
