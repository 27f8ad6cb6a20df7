-- The ways through reading a whole trace.
-- Assumes nothing.
use Prim.Native.Nat.{ℕ}
use mathlib.Core.Path.{◌≡◌, refl, sym, ap, subst}
use mathlib.Core.List.{List, []}
use lib.ListN.{length, replicate}
use borrow.Author.Tests.{leb-true}
use Rattle.std.specs.Prelude.{Result}
use Rattle.number.specs.Number.{read_number}
use Rattle.number.specs.Reader.{Out, stop, next, up_to, within, turns, times, number_of, refused}
use Rattle.number.specs.declared.Refusal.{Refusal}
use Rattle.model.specs.Limits.{most_threads, most_addresses, most_value}
use Rattle.storage_model.specs.Limits.{most_steps}
use Rattle.storage_model.specs.Trace.{Trace}
use Rattle.storage_model.specs.Layout.{next_step, trace, read_trace, listing}
use Rattle.case.specs.Held.{pad}
use Rattle.reader.specs.Answers.{Counts, Done, Counted, Padded}
use Rattle.reader.proofs.Forward.{gone, forward_within}
use Rattle.trace_reader.specs.Held.{held_trace, empty_trace, reading_shown}
use Rattle.trace_reader.specs.declared.TraceReading.{TraceReading}
use Rattle.trace_reader.specs.Fields.{Steps, Listing, TraceRead}
use Rattle.trace_reader.specs.declared.Trace.{Trace as Held}
use Rattle.trace_reader.proofs.AllSteps.{steps-long}

-- the initial values and the steps
module _ (s : List ℕ) (at n m : ℕ) where
  pub no_initials : (x p : ℕ) → times m (up_to most_value) s at ≡ stop x p → listing n m s at ≡ stop x p
  unfolding listing
  no_initials x p g = rw g

  module _ (p₁ : ℕ) (initial : List ℕ) (d₁ : Done (Padded most_addresses initial) (times m (up_to most_value) s at) p₁) where
    pub no_count : (x p : ℕ) → stop x p ≡ read_number s p₁ most_steps → listing n m s at ≡ stop x p
    unfolding listing up_to
    no_count x p e = rw (d₁.is, ← e)

    module _ (k p₂ : ℕ) (e₂ : next k p₂ ≡ read_number s p₁ most_steps) where
      pub no_steps_read : (x p : ℕ) → turns k (next_step n m) [] s p₂ ≡ stop x p → listing n m s at ≡ stop x p
      unfolding listing up_to
      no_steps_read x p g = rw (d₁.is, ← e₂, g)

      pub whole-listing : (p₃ : ℕ) (ks fs gs vs : List ℕ) → Done (Steps ks fs gs vs) (turns k (next_step n m) [] s p₂) p₃
          → Counted (λ t. length t.steps) (Listing n m initial ks fs gs vs) (listing n m s at) k p₃
      unfolding listing up_to
      whole-listing p₃ ks fs gs vs d = record {
        what = record { n = n; m = m; initials = d₁.what; steps = d.what };
        is = rw (d₁.is, ← e₂, d.is);
        number_is = sym (steps-long s n m k p₂ d.what p₃ d.is);
        stored = record { threads = refl; addresses = refl; initials = d₁.stored; steps = d.stored };
      }

-- the struct
pub no_steps : Steps (replicate most_steps 0) (replicate most_steps 0) (replicate most_steps 0) (replicate most_steps 0) []
unfolding pad
no_steps = record { kind = refl; first = refl; second = refl; value = refl }

pub whole_struct : (n m : ℕ) (initial ks fs gs vs : List ℕ) {o : Out Trace} {k p : ℕ} → Counted (λ t. length t.steps) (Listing n m initial ks fs gs vs) o k p
    → Done (λ t. ◌≡◌ {A = Held} (record { threads = n; addresses = m; initial = initial; steps = k; kind = ks; first = fs; second = gs; value = vs }) (held_trace t)) o p
unfolding held_trace
whole_struct n m initial ks fs gs vs d = record {
  what = d.what;
  is = d.is;
  stored = λ i. record {
    threads = d.stored.threads i;
    addresses = d.stored.addresses i;
    initial = d.stored.initials.stored i;
    steps = d.number_is i;
    kind = d.stored.steps.kind i;
    first = d.stored.steps.first i;
    second = d.stored.steps.second i;
    value = d.stored.steps.value i;
  };
}

-- from the start
module _ (s : List ℕ) where
  pub no_threads : (x p : ℕ) → stop x p ≡ within 1 most_threads s 0 → read_trace s ≡ stop x p
  unfolding read_trace trace
  no_threads x p e = rw (← e)

  module _ (n p₁ : ℕ) (e₁ : next n p₁ ≡ within 1 most_threads s 0) where
    pub no_addresses : (x p : ℕ) → stop x p ≡ within 1 most_addresses s p₁ → read_trace s ≡ stop x p
    unfolding read_trace trace
    no_addresses x p e = rw (← e₁, ← e)

    module _ (m p₂ : ℕ) (e₂ : next m p₂ ≡ within 1 most_addresses s p₁) where
      pub counts_read : Counts n m
      counts_read =
          let a = (gone (forward_within {s = s} 1 most_threads) 0 n p₁ (sym e₁)).holds in
          let b = (gone (forward_within {s = s} 1 most_addresses) p₁ m p₂ (sym e₂)).holds in
          record { threads_least = leb-true 1 n a.1; threads_most = a.0; addresses_least = leb-true 1 m b.1; addresses_most = b.0 }

      body_is : read_trace s ≡ listing n m s p₂
      unfolding read_trace trace
      body_is = rw (← e₁, ← e₂)

      pub whole-trace : (r : Result (Held × ℕ) Refusal) → TraceRead (listing n m s p₂) r → TraceRead (read_trace s) r
      whole-trace r h = subst (λ (o : Out Trace). TraceRead o r) (sym body_is) h

-- ---- as the struct that C gets
pub shown_read : {o : Out Trace} (t : Held) (p : ℕ) → Done (λ m. t ≡ held_trace m) o p
    → ◌≡◌ {A = TraceReading} (record { number = 0; place = 0; length = p; trace = t }) (reading_shown o)
unfolding reading_shown
shown_read t p d = rw d.is (ap (λ (x : Held). record { number = 0; place = 0; length = p; trace = x }) d.stored)

pub shown_refused : {o : Out Trace} (e : Refusal) {n : ℕ} {t : Held} → o ≡ refused e → n ≡ number_of e.fault → t ≡ empty_trace
    → ◌≡◌ {A = TraceReading} (record { number = n; place = e.place; length = 0; trace = t }) (reading_shown o)
unfolding reading_shown
shown_refused e h g f = rw (h, g, f)
