-- Conditions about a case that keeps the limits: what is read, what is refused, and what the calls answer.
-- Assumes nothing.
use Prim.Native.Nat.{ℕ, zero, suc, ◌+◌, ◌≤◌, ◌<◌}
use native.Mathlib.Omega.{arith}
use mathlib.Core.Path.{◌≡◌, refl, ap}
use mathlib.Core.Logic.{◌⊎◌, inl, inr, ⊎_elim, ◌↔◌}
use mathlib.Core.Bool.{Bool, true, false}
use mathlib.Core.List.{List}
use lib.Dec.{eqb}
use lib.ListN.{length, get_or-eq_default}
use borrow.Author.Tests.{lt-ltb}
use Rattle.number.specs.Number.{Bytes}
use Rattle.number.specs.Reader.{Out, stop, next}
use Rattle.number.proofs.Encoding.{lt_or_ge}
use Rattle.model.specs.Limits.{most_events}
use Rattle.model.specs.Case.{Case, Event, no_event, load}
use Rattle.model.specs.Rules.{Model, PPCw, PPCs, kind, is_load, verdict}
use Rattle.model.specs.Record.{read}
use Rattle.model.specs.Answers.{refusal, handed, judgement, judge_out, under_model, judge, judge_case}
use Rattle.model.specs.Fits.{Fits}
use Rattle.condition_model.specs.Grammar.{most_text, most_depth, Condition, decimal, Accepted}
use Rattle.condition_model.specs.Reader.{read_text}
use Rattle.condition_model.specs.Faults.{Told, NoLoad, Completed, AlikeAt}
use Rattle.condition_model.specs.Truth.{ranges}
use Rattle.condition_model.specs.Answers.{without, by_text, by_verdict, condition_out, condition, condition_case}
use Rattle.condition_model.proofs.Decimal.{decimal_two}
use Rattle.condition_model.proofs.Outcomes.{Usable}
use Rattle.condition_model.proofs.Text.{accepted, accepted_only, completed, leftmost}

-- ---- what is read of a text

-- a load among the first i events, or none
some-load : (c : Case) (i : ℕ) → ((e : ℕ) × (e < i) × (is_load c e ≡ true)) ⊎ ((e : ℕ) → e < i → is_load c e ≡ false)
some-load c zero = inr (λ e l. absurd (omega arith))
some-load c (suc i) = go (is_load c i) refl (some-load c i)
  where
    go : (b : Bool) → is_load c i ≡ b → ((e : ℕ) × (e < i) × (is_load c e ≡ true)) ⊎ ((e : ℕ) → e < i → is_load c e ≡ false)
        → ((e : ℕ) × (e < suc i) × (is_load c e ≡ true)) ⊎ ((e : ℕ) → e < suc i → is_load c e ≡ false)
    go true h s = inl (i, omega arith, h)
    go false h s =
        ⊎_elim (λ (f : (e : ℕ) × (e < i) × (is_load c e ≡ true)). inl (f.0, omega (arith, f.1), f.2))
        (λ (n : (e : ℕ) → e < i → is_load c e ≡ false). inr (λ e l.
        ⊎_elim (λ (k : e < i). n e k) (λ (k : i ≤ e). let same : e ≡ i = omega arith in rw same h) (lt_or_ge e i))) s

-- past the last event there is no load
pub no-event : (c : Case) (e : ℕ) → length c.events ≤ e → is_load c e ≡ false
unfolding is_load kind
no-event c e l = ap (λ (x : Event). eqb x.kind load) (get_or-eq_default c.events no_event l)

-- a case has numbers to complete an equation with
pub usable : (c : Case) → 1 ≤ c.m → c.k ≤ most_events → c.k ≡ length c.events → Usable (ranges c)
unfolding ranges
usable c m_least k_most k = record {
  address = lt-ltb 0 c.m m_least;
  value = refl;
  load =
      ⊎_elim
      (λ (f : (e : ℕ) × (e < c.k) × (is_load c e ≡ true)).
      inl (record { a = f.0; rest = decimal f.0; short = decimal_two f.0 (omega (arith, f.1)); holds = record { same = refl; passes = f.2 } }))
      (λ (n : (e : ℕ) → e < c.k → is_load c e ≡ false). inr (λ e.
      ⊎_elim (λ (l : e < c.k). n e l) (λ (l : c.k ≤ e). no-event c e (omega arith)) (lt_or_ge e c.k))) (some-load c c.k);
}

module _ (c : Case) (F : Fits c) where
  usable_case : Usable (ranges c)
  usable_case = usable c F.m_least F.k_most F.k

  -- what is read is exactly what the grammar spells, within the limits
  pub text-iff : (s : List ℕ) (t : Condition) → (read_text (ranges c) s ≡ next t (length s)) ↔ Accepted (ranges c) s t
  text-iff s t = (λ h. (accepted_only (ranges c) s usable_case t (length s) h).1, accepted (ranges c) s t)

  -- and it is read to the text's end
  pub text-whole : (s : List ℕ) (t : Condition) (p : ℕ) → read_text (ranges c) s ≡ next t p → p ≡ length s
  text-whole s t p h = (accepted_only (ranges c) s usable_case t p h).0

  -- what stands before a fault can be completed by at most 21 bytes, unless the case has no load and an `e` stands there
  pub text-completed : (s : List ℕ) (x p : ℕ) → length s ≤ most_text → read_text (ranges c) s ≡ stop x p
      → Told (ranges c) s x p × (Completed (ranges c) s p (5 + most_depth) ⊎ NoLoad (ranges c) s p)
  text-completed s x p l h = completed (ranges c) s usable_case x p l h

-- a text that is alike up to a fault is refused alike, and so spells nothing that the case allows
pub text_leftmost : (c : Case) (s t : List ℕ) (x p : ℕ) → Bytes s → length s ≤ most_text → length t ≤ most_text → read_text (ranges c) s ≡ stop x p → AlikeAt s t p
    → read_text (ranges c) t ≡ stop x p
text_leftmost c s t x p bytes l m h A = leftmost (ranges c) s t x p bytes l m h A

-- ---- what the calls answer

-- under a model, of what was read or handed
pub own-under : (w : Model) (text : List ℕ) (o : Out Case) → ((judge_out w o).number ≡ 0 → ⊥) → condition_out w text o ≡ without (judge_out w o)
own-under w text (stop x p) n = refl
own-under w text (next c i) n = go (verdict c w) n
  where
    go : (v : ℕ) → ((judgement c i v).number ≡ 0 → ⊥) → by_verdict c (judgement c i v) v (read_text (ranges c) text) ≡ without (judgement c i v)
    go zero n = absurd (n refl)
    go (suc v) n = refl

pub text-under : (w : Model) (text : List ℕ) (c : Case) (i : ℕ) → (judge_out w (next c i)).number ≡ 0 → condition_out w text (next c i) ≡ by_text c (judge_out w (next c i)) (read_text (ranges c) text)
text-under w text c i z = go (verdict c w) z
  where
    go : (v : ℕ) → (judgement c i v).number ≡ 0 → by_verdict c (judgement c i v) v (read_text (ranges c) text) ≡ by_text c (judgement c i v) (read_text (ranges c) text)
    go zero z = refl
    go (suc v) z = absurd (omega arith)

own_out : (model : ℕ) (text : List ℕ) (o : Out Case) → ((under_model model (λ w. judge_out w o) (refusal 7 0)).number ≡ 0 → ⊥)
    → under_model model (λ w. condition_out w text o) (without (refusal 7 0)) ≡ without (under_model model (λ w. judge_out w o) (refusal 7 0))
own_out zero text o n = own-under PPCw text o n
own_out (suc zero) text o n = own-under PPCs text o n
own_out (suc (suc x)) text o n = refl

text_out : (model : ℕ) (text : List ℕ) (c : Case) (i : ℕ) → (under_model model (λ w. judge_out w (next c i)) (refusal 7 0)).number ≡ 0
    → under_model model (λ w. condition_out w text (next c i)) (without (refusal 7 0))
    ≡ by_text c (under_model model (λ w. judge_out w (next c i)) (refusal 7 0)) (read_text (ranges c) text)
text_out zero text c i z = text-under PPCw text c i z
text_out (suc zero) text c i z = text-under PPCs text c i z
text_out (suc (suc x)) text c i z = absurd (omega arith)

-- 02 (x): "A case that isn't accepted returns its own number first": judging's whole answer, and so for any bytes and any model
pub own_first : (model : ℕ) (s text : List ℕ) → ((judge model s).number ≡ 0 → ⊥) → condition model s text ≡ without (judge model s)
unfolding condition judge
own_first model s text n = own_out model text (read s) n

pub own-first-case : (model : ℕ) (c : Case) (text : List ℕ) → ((judge_case model c).number ≡ 0 → ⊥) → condition_case model c text ≡ without (judge_case model c)
unfolding condition_case judge_case
own-first-case model c text n = own_out model text (handed c) n

-- 02 (x): "the answer is its truth for an accepted case": the text's fault, or judging's answer and the truth of the condition that is read
pub by-text : (model : ℕ) (s text : List ℕ) (c : Case) (i : ℕ) → read s ≡ next c i → (judge model s).number ≡ 0
    → condition model s text ≡ by_text c (judge model s) (read_text (ranges c) text)
unfolding condition judge
by-text model s text c i e z = rw e (text_out model text c i (rw e at z))

pub by_text-case : (model : ℕ) (c : Case) (text : List ℕ) (i : ℕ) → handed c ≡ next c i → (judge_case model c).number ≡ 0
    → condition_case model c text ≡ by_text c (judge_case model c) (read_text (ranges c) text)
unfolding condition_case judge_case
by_text-case model c text i e z = rw e (text_out model text c i (rw e at z))
