-- The ways through reading a step.
-- Assumes nothing.
use Prim.Native.Nat.{ℕ, ◌≤◌, ◌<◌}
use mathlib.Core.Path.{◌≡◌, refl}
use mathlib.Core.Bool.{Bool, true, false}
use mathlib.Core.List.{List}
use native.Mathlib.Omega.{arith}
use mir.Syntax.{w8}
use mir.Val.{Fits}
use Rattle.number.specs.Reader.{Out, stop, next, unless, within, under}
use Rattle.storage_model.specs.Limits.{most_kind, most_steps}
use Rattle.storage_model.specs.Trace.{Step}
use Rattle.storage_model.specs.Layout.{room_for, step}
use Rattle.reader.specs.Answers.{Counts}
use Rattle.reader.proofs.Links.{number_in}
use Rattle.trace_reader.specs.Held.{step_of}
use Rattle.trace_reader.specs.Kinds.{number_of}
use Rattle.trace_reader.specs.Fields.{first_count, second_count, has_value, any_fields, Exact}
use Rattle.trace_reader.specs.declared.Kind.{Kind}
use Rattle.trace_reader.specs.declared.Kind.TheVariants.{AcceptWrite, AcceptBarrier, PropagateWrite, PropagateBarrier, Commit, Respond, Acknowledge}
use Rattle.trace_reader.proofs.Alike.{fields-alike}

-- a number below so many fits a byte
pub under-byte : (s : List ℕ) (at k v p : ℕ) → next v p ≡ under k s at → k ≤ most_steps → Fits w8 v
under-byte s at k v p e h = record { fits = omega (arith, number_in s at k v p e) }

-- the numbers of the kinds
pub number-least : (k : Kind) → 1 ≤ number_of k
number-least AcceptWrite = omega arith
number-least AcceptBarrier = omega arith
number-least PropagateWrite = omega arith
number-least PropagateBarrier = omega arith
number-least Commit = omega arith
number-least Respond = omega arith
number-least Acknowledge = omega arith

pub number-most : (k : Kind) → number_of k ≤ most_kind
number-most AcceptWrite = omega arith
number-most AcceptBarrier = omega arith
number-most PropagateWrite = omega arith
number-most PropagateBarrier = omega arith
number-most Commit = omega arith
number-most Respond = omega arith
number-most Acknowledge = omega arith

-- every kind but the last has a lower number
pub number-lower : (k : Kind) → (k ≡ Acknowledge → ⊥) → number_of k < most_kind
number-lower AcceptWrite d = omega arith
number-lower AcceptBarrier d = omega arith
number-lower PropagateWrite d = omega arith
number-lower PropagateBarrier d = omega arith
number-lower Commit d = omega arith
number-lower Respond d = omega arith
number-lower Acknowledge d = absurd (d refl)

-- what a field names one of
pub first_few : (k : Kind) (n w b most : ℕ) → n ≤ most → w ≤ most → b ≤ most → first_count (number_of k) n w b ≤ most
unfolding first_count
first_few AcceptWrite n w b most hn hw hb = hn
first_few AcceptBarrier n w b most hn hw hb = hn
first_few PropagateWrite n w b most hn hw hb = hw
first_few PropagateBarrier n w b most hn hw hb = hb
first_few Commit n w b most hn hw hb = hw
first_few Respond n w b most hn hw hb = hn
first_few Acknowledge n w b most hn hw hb = hb

pub second_few : (k : Kind) (n m w most : ℕ) → n ≤ most → m ≤ most → w ≤ most → 2 ≤ most → second_count (number_of k) n m w ≤ most
unfolding second_count has_value
second_few AcceptWrite n m w most hn hm hw h = hm
second_few AcceptBarrier n m w most hn hm hw h = h
second_few PropagateWrite n m w most hn hm hw h = hn
second_few PropagateBarrier n m w most hn hm hw h = hn
second_few Commit n m w most hn hm hw h = hw
second_few Respond n m w most hn hm hw h = hm
second_few Acknowledge n m w most hn hm hw h = hn

-- a step of any kind but the last holds its two fields, and the value that it has
pub exact-fields : (k : Kind) (x y v : ℕ) → number_of k < most_kind → (has_value (number_of k) ≡ false → v ≡ 0)
    → Exact (record { kind = k; first = x; second = y; value = v })
unfolding has_value step_of
exact-fields AcceptWrite x y v l z = refl
exact-fields AcceptBarrier x y v l z = rw (z refl)
exact-fields PropagateWrite x y v l z = rw (z refl)
exact-fields PropagateBarrier x y v l z = rw (z refl)
exact-fields Commit x y v l z = rw (z refl)
exact-fields Respond x y v l z = refl
exact-fields Acknowledge x y v l z = absurd (omega arith)

-- and the last the first
pub exact-first : (k : Kind) (x : ℕ) → k ≡ Acknowledge → Exact (record { kind = k; first = x; second = 0; value = 0 })
unfolding step_of
exact-first k x e = rw e

-- the kind and the fields
module _ (s : List ℕ) (at n m w b : ℕ) where
  pub no_kind : (x p : ℕ) → stop x p ≡ within 1 most_kind s at → stop x p ≡ step n m w b s at
  unfolding step unless
  no_kind x p e = rw (← e)

  module _ (k : Kind) (p₁ : ℕ) (e₁ : next (number_of k) p₁ ≡ within 1 most_kind s at) {t : Bool} (et : t ≡ room_for w b (number_of k)) where
    pub no_room : t ≡ false → stop 3 at ≡ step n m w b s at
    unfolding step unless
    no_room y = rw (← e₁, ← et, y)

    pub with_room : t ≡ true → Counts n m → {firsts seconds : ℕ} → firsts ≡ first_count (number_of k) n w b → seconds ≡ second_count (number_of k) n m w
        → {r : Out Step} → r ≡ any_fields (number_of k) firsts seconds s p₁ → r ≡ step n m w b s at
    unfolding step unless
    with_room y c ef es e =
        rw (← e₁, ← et, y, fields-alike n m w b (number_of k) c.threads_least c.addresses_least (number-least k) (number-most k), ← ef, ← es) e
