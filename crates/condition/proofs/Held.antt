-- The arrays of a struct against the case that it means: which numbers a text may have, and its truth.
-- Assumes nothing.
use Prim.Native.Nat.{ℕ, zero, suc, ◌≤◌, ◌<◌}
use native.Mathlib.Omega.{arith}
use mathlib.Core.Path.{◌≡◌, refl, sym, ap, ◌∙◌}
use mathlib.Core.Logic.{⊎_elim}
use mathlib.Core.Bool.{Bool, true, false}
use mathlib.Core.List.{List}
use lib.Dec.{eqb, leb, ltb}
use lib.ListN.{length, take, get_or}
use lib.Seq.{length-take-le, get_or-take}
use borrow.Author.Tests.{lt-ltb, le-ltb, ltb-true, eqb-true}
use Rattle.finite.proofs.Lists.{table-length, table_get, table_same, as_table}
use Rattle.finite.proofs.Tests.{and_l, and_r}
use Rattle.number.specs.Reader.{Out, stop, next}
use Rattle.number.proofs.Encoding.{lt_or_ge}
use Rattle.model.specs.Limits.{most_addresses, most_value}
use Rattle.model.specs.Case.{Case, load, bare}
use Rattle.model.specs.Rules.{Model, value, is_load, verdict, final, finals}
use Rattle.model.specs.Answers.{Answer, judgement, judge_out}
use Rattle.case.specs.declared.Case.{Case as Held}
use Rattle.case.specs.Held.{case_of}
use Rattle.case.specs.Sound.{Sound}
use Rattle.case.proofs.Shape.{shaped}
use Rattle.rules.proofs.Means.{load_in, value-in}
use Rattle.answers.specs.declared.Answer.{Answer as Given}
use Rattle.answers.specs.Shown.{shown}
use Rattle.condition_model.specs.Grammar.{most_depth, Condition}
use Rattle.condition_model.specs.Reader.{read_text}
use Rattle.condition_model.specs.Truth.{truth_c, truth, ranges}
use Rattle.condition_model.specs.Answers.{by_text, condition_out}
use Rattle.condition_model.proofs.Outcomes.{Usable}
use Rattle.condition_model.proofs.Text.{accepted_only}
use Rattle.condition_model.proofs.Cases.{no-event, usable, own-under, text-under}
use Rattle.condition_model.proofs.Moved.{truth-same}
use Rattle.condition_reader.specs.Told.{map_out, value_in, is_address, is_load as is_load_in, held_ranges}
use Rattle.condition.specs.Shown.{shown_with, condition_shown, shown_by, firsts, text_truth}

pub firsts-take : (k : ℕ) (xs : List ℕ) → k ≤ length xs → take k xs ≡ firsts k xs
firsts-take k xs h =
    as_table (take k xs) 0 k (length-take-le k xs h) ∙ table_same 0 k (λ y. get_or (take k xs) y 0) (λ y. get_or xs y 0) (λ y l u. get_or-take k xs y 0 (omega arith))

finals_at : (c : Case) (a : ℕ) → a < most_addresses → get_or (finals c) a 0 ≡ final c a
unfolding finals
finals_at c a l = table_get most_addresses (final c) a 0 l

module _ (h : Held) where
  as_many : h.events ≡ length (case_of h).events
  unfolding case_of
  as_many = (shaped h).k

  -- the loads by the kinds are those of the case
  load_same : (e : ℕ) → is_load_in (firsts h.events h.kind) e ≡ is_load (case_of h) e
  unfolding is_load_in
  load_same e =
      rw (table-length 0 h.events (λ i. get_or h.kind i 0))
      (⊎_elim
      (λ (l : e < h.events). rw (lt-ltb e h.events l) (ap (λ (x : ℕ). eqb x load) (table_get h.events (λ i. get_or h.kind i 0) e 0 l) ∙ sym (load_in h e l)))
      (λ (l : h.events ≤ e). rw (le-ltb e h.events l) (sym (no-event (case_of h) e (omega (arith, as_many)))))
      (lt_or_ge e h.events))

  -- a load's value is that of the case
  value_same : (e : ℕ) → is_load_in (firsts h.events h.kind) e ≡ true → value_in (firsts h.events h.value) e ≡ value (case_of h) e
  unfolding is_load_in
  value_same e is =
      let l : e < h.events =
      ltb-true e h.events (rw (table-length 0 h.events (λ i. get_or h.kind i 0)) at (and_l (ltb e (length (firsts h.events h.kind))) _ is)) in
      let k : get_or h.kind e 0 ≡ load =
      sym (table_get h.events (λ i. get_or h.kind i 0) e 0 l) ∙ eqb-true _ load (and_r (ltb e (length (firsts h.events h.kind))) _ is) in
      table_get h.events (λ i. get_or h.value i 0) e 0 l ∙ sym (value-in h e l (ap bare k))

  module _ (S : Sound h) (fs : List ℕ) (is-finals : fs ≡ finals (case_of h)) where
    address_same : (a : ℕ) → is_address (firsts h.addresses fs) a ≡ ltb a (case_of h).m
    unfolding is_address case_of
    address_same a = rw (table-length 0 h.addresses (λ i. get_or fs i 0))

    final-same : (a : ℕ) → ltb a (case_of h).m ≡ true → value_in (firsts h.addresses fs) a ≡ final (case_of h) a
    unfolding case_of
    final-same a is =
        let l : a < h.addresses = ltb-true a h.addresses is in
        table_get h.addresses (λ i. get_or fs i 0) a 0 l ∙ ap (λ (xs : List ℕ). get_or xs a 0) is-finals ∙ finals_at (case_of h) a (omega (arith, S.addresses_most))

    ranges-same : held_ranges (firsts h.addresses fs) (firsts h.events h.kind) ≡ ranges (case_of h)
    unfolding ranges
    ranges-same = λ i. record { address = λ a. address_same a i; load = λ e. load_same e i; value = λ v. leb v most_value }

    case_usable : Usable (ranges (case_of h))
    case_usable =
        usable (case_of h) (unfold case_of in S.addresses_least) (unfold case_of in S.events_most) (shaped h).k

    -- the truth of a text by the arrays is that for the case
    text_same : (text : List ℕ) → text_truth (firsts h.addresses fs) (firsts h.events h.kind) (firsts h.events h.value) text ≡ map_out (truth (case_of h)) (read_text (ranges (case_of h)) text)
    text_same text = rw ranges-same (go (read_text (ranges (case_of h)) text) refl)
      where
        go : (o : Out Condition) → read_text (ranges (case_of h)) text ≡ o
            → map_out (truth_c (value_in (firsts h.addresses fs)) (value_in (firsts h.events h.value))) o ≡ map_out (truth (case_of h)) o
        go (stop x p) e = refl
        go (next t p) e =
            let A = (accepted_only (ranges (case_of h)) text case_usable t p e).1 in
            ap (λ (b : Bool). next b p)
            (truth-same (ranges (case_of h)) (final (case_of h)) (value_in (firsts h.addresses fs)) (value (case_of h)) (value_in (firsts h.events h.value))
            (λ a is. unfold ranges in final-same a is) (λ e is. unfold ranges in value_same e (load_same e ∙ is)) most_depth t A.fits)

-- ---- the answers

-- an accepted case's answer holds its finals
finals_of : (c : Case) (i v : ℕ) → (judgement c i v).number ≡ 0 → (judgement c i v).finals ≡ finals c
finals_of c i zero e = refl
finals_of c i (suc v) e = absurd (omega arith)

by_same : (c : Case) (a : Answer) (o : Out Condition) → shown_by (shown a) (map_out (truth c) o) ≡ condition_shown (by_text c a o)
by_same c a (stop x p) = refl
by_same c a (next t p) = refl

-- a case that judging answers with g
module _ (h : Held) (i : ℕ) (w : Model) (g : Given) (e : g ≡ shown (judge_out w (next (case_of h) i))) (text : List ℕ) where
  same_number : (judge_out w (next (case_of h) i)).number ≡ g.number
  same_number = sym (ap (λ (a : Given). a.number) e)

  pub is_accepted : Sound h → g.number ≡ 0 → (o : Out Bool) → o ≡ text_truth (firsts h.addresses g.finals) (firsts h.events h.kind) (firsts h.events h.value) text
      → shown_by g o ≡ condition_shown (condition_out w text (next (case_of h) i))
  is_accepted S z o is =
      ap (shown_by g) (is ∙ text_same h S g.finals (ap (λ (a : Given). a.finals) e ∙ finals_of (case_of h) i (verdict (case_of h) w) (same_number ∙ z)) text)
      ∙ ap (λ (a : Given). shown_by a (map_out (truth (case_of h)) (read_text (ranges (case_of h)) text))) e
      ∙ by_same (case_of h) (judge_out w (next (case_of h) i)) (read_text (ranges (case_of h)) text)
      ∙ ap condition_shown (sym (text-under w text (case_of h) i (same_number ∙ z)))

  pub is_broken : (g.number ≡ 0 → ⊥) → shown_with g false ≡ condition_shown (condition_out w text (next (case_of h) i))
  is_broken n = ap (λ (a : Given). shown_with a false) e ∙ ap condition_shown (sym (own-under w text (next (case_of h) i) (λ z. n (sym same_number ∙ z))))
