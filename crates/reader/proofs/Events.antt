-- The ways through reading an event, and the turns of reading the events. Each premise stands as the code's places have it, so that `search` finds it.
-- Assumes nothing.
use Prim.Native.Nat.{ℕ, ◌+◌, ◌-◌, ◌≤◌, ◌<◌, ◌^◌}
use mathlib.Core.Path.{◌≡◌, sym}
use mathlib.Core.List.{List, []}
use native.Mathlib.Omega.{arith}
use lib.ListN.{set}
use mir.Syntax.{w8}
use mir.Val.{Fits}
use Rattle.number.specs.Number.{read_number}
use Rattle.number.specs.Reader.{stop, next, times}
use Rattle.number.proofs.Laws.{read_within}
use Rattle.model.specs.Limits.{most_addresses, most_events}
use Rattle.model.specs.Case.{Event}
use Rattle.model.specs.Record.{event}
use Rattle.reader.specs.Answers.{Counts, Events, model_event}
use Rattle.reader.specs.declared.Event as code
use Rattle.case.proofs.Pad.{pad-next}
use Rattle.reader.proofs.Filling.{Filling, filling_begun, filling_stop, filling_next}

-- a number that was read fits a byte where its limit does
pub fits_byte : (s : List ℕ) (at limit v p : ℕ) → next v p ≡ read_number s at limit → limit < 2 ^ 8 → Fits w8 v
fits_byte s at limit v p e h = let l : v ≤ limit = read_within s at limit v p (sym e) in record { fits = omega arith }

pub few-threads : (n m : ℕ) → Counts n m → n - 1 < 2 ^ 8
few-threads n m c = omega (arith, c.threads_most)

pub few-addresses : (m : ℕ) → m ≤ most_addresses → m - 1 < 2 ^ 8
few-addresses m h = omega arith

-- of k events e are read, and stand in the arrays
abbrev pub EventsFilled : (s : List ℕ) (at edition n m k : ℕ) (ks ts as' vs : List ℕ) (place e : ℕ) → Type 0
EventsFilled s at edition n m k ks ts as' vs place e = Filling (Events ks ts as' vs) (λ _. event edition n m) (times k (event edition n m) s at) s k place e

module _ (s : List ℕ) (at edition n m k : ℕ) (ks ts as' vs : List ℕ) where
  pub begun : Events ks ts as' vs [] → EventsFilled s at edition n m k ks ts as' vs at 0
  unfolding times
  begun h = filling_begun (Events ks ts as' vs) (λ _. event edition n m) s k at h

  module _ (p₀ e : ℕ) (h : EventsFilled s at edition n m k ks ts as' vs p₀ e) where
    pub refusal : e < k → (x p : ℕ) → stop x p ≡ event edition n m s p₀ → times k (event edition n m) s at ≡ stop x p
    refusal l x p g = filling_stop _ _ _ _ _ _ _ h l x p (λ _ _ _. sym g)

    pub one_more : e < k → k ≤ most_events → (v : code.Event) (p : ℕ) → next (model_event v) p ≡ event edition n m s p₀
        → EventsFilled s at edition n m k (set ks e v.kind) (set ts e v.thread) (set as' e v.address) (set vs e v.value) p (e + 1)
    one_more l b v p g =
        let a : Event = model_event v in
        let i : e < most_events = omega arith in
        filling_next _ _ _ _ _ _ _ h l a p (λ _ _ _. sym g)
        (Events (set ks e v.kind) (set ts e v.thread) (set as' e v.address) (set vs e v.value))
        (λ es c t. record {
          kind = rw t.kind (pad-next (λ x. x.kind) most_events es a e c i);
          thread = rw t.thread (pad-next (λ x. x.thread) most_events es a e c i);
          address = rw t.address (pad-next (λ x. x.address) most_events es a e c i);
          value = rw t.value (pad-next (λ x. x.value) most_events es a e c i);
        })
