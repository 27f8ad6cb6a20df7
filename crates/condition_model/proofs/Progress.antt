-- What is read ends behind where its reader began, within the text: it is spelled there (Outcomes), and where every number is allowed it is read too (Follows).
-- Assumes nothing.
use Prim.Native.Nat.{ℕ, ◌+◌, ◌≤◌}
use native.Mathlib.Omega.{arith}
use mathlib.Core.Path.{refl, subst}
use mathlib.Core.Logic.{inl}
use mathlib.Core.List.{List, [], ◌∷◌, ◌++◌}
use lib.ListN.{length}
use Rattle.number.specs.Reader.{Out, stop, next}
use Rattle.condition_model.specs.Grammar.{Condition, Condition.a_term, Condition.or_else, Term, Term.a_factor, Term.and_also, Factor, Factor.negation, Factor.bracketed, Factor.memory_is, Factor.load_is, opening, closing, slash, equals, backslash, letter_e, letter_m, tilde, decimal, tokens_c, tokens_t, tokens_f, Padded, Ranges, free}
use Rattle.condition_model.specs.Reader.{skipped, condition_by, term_by, factor_by}
use Rattle.condition_model.proofs.Decimal.{decimal_low}
use Rattle.condition_model.proofs.Parts.{part-inside, part-within, part-skip}
use Rattle.condition_model.proofs.Outcomes.{Usable, Outcome, Runs, Spelt, outcome_C, outcome-T, outcome_F}
use Rattle.condition_model.proofs.ReadBack.{padded_long, padded_joined}
use Rattle.condition_model.proofs.Follows.{Follows, Freer, follows_C, follows-T, follows_F, free_freer, same_levels}

-- what is read ends at lo or behind it, and at n or before it
abbrev pub Within : (lo n : ℕ) {A : Type 0} → Out A → Type 0
Within lo n (stop x p) = Unit {0}
Within lo n (next a p) = (lo ≤ p) × (p ≤ n)

pub skip-within : (s : List ℕ) (lo p : ℕ) → lo ≤ p → p ≤ length s → (lo ≤ skipped s p) × (skipped s p ≤ length s)
skip-within s lo p l h = (omega (arith, (part-skip s p).place), part-inside (part-skip s p) h)

-- ---- a byte at least spells a condition, a term or a factor

long_F : (f : Factor) (bs : List ℕ) → Padded (tokens_f f) bs → 1 ≤ length bs
unfolding tokens_f
long_F (negation f) bs P = omega (arith, padded_long (tilde ∷ []) (tokens_f f) bs P)
long_F (bracketed c) bs P = omega (arith, padded_long (opening ∷ []) (tokens_c c ++ ((closing ∷ []) ∷ [])) bs P)
long_F (memory_is a v) bs P = omega (arith, padded_long (letter_m ∷ decimal a) ((equals ∷ []) ∷ decimal v ∷ []) bs P)
long_F (load_is e v) bs P = omega (arith, padded_long (letter_e ∷ decimal e) ((equals ∷ []) ∷ decimal v ∷ []) bs P)

long-T : (t : Term) (bs : List ℕ) → Padded (tokens_t t) bs → 1 ≤ length bs
unfolding tokens_c
long-T (a_factor f) bs P = long_F f bs P
long-T (and_also f t) bs P = omega (arith, (padded_joined slash backslash (tokens_f f) (tokens_t t) bs P).4)

long_C : (c : Condition) (bs : List ℕ) → Padded (tokens_c c) bs → 1 ≤ length bs
unfolding tokens_c
long_C (a_term t) bs P = long-T t bs P
long_C (or_else t c) bs P = omega (arith, (padded_joined backslash slash (tokens_t t) (tokens_c c) bs P).4)

-- ---- and so for what is read

free_usable : Usable free
free_usable = record { address = refl; value = refl; load = inl (record { a = 0; rest = decimal 0; short = rw (decimal_low 0 (omega arith)) (omega arith); holds = record { same = refl; passes = refl } }) }

-- no refusal has to stay
abbrev None : ℕ → Type 0
None x = ⊥

module _ (s : List ℕ) where
  -- o' is what is answered where every number is allowed
  ends : {A : Type 0} {tokens : A → List (List ℕ)} {fits : A → Type 0} {b : ℕ} (at : ℕ) (o o' : Out A) → Follows None s s at o o' → Runs free s (Spelt tokens fits) b at o'
      → ((a : A) (bs : List ℕ) → Padded (tokens a) bs → 1 ≤ length bs) → Within (at + 1) (length s) o
  ends at (stop x p) o' F R long = tt
  ends {tokens = tokens} {fits} {b} at (next a p) o' F R long =
      let T = subst (Outcome free s (Spelt tokens fits) b at) (F.is.1 (λ i k. refl)) R.is in part-within T.part (long a T.bs T.holds.padded)

  module _ (w : Ranges) (f n at : ℕ) where
    freer : Freer None w free
    freer = free_freer None w (λ z. z)

    pub condition-within : Within (at + 1) (length s) (condition_by f w n s at)
    condition-within =
        ends at (condition_by f w n s at) (condition_by f free n s at) (follows_C w free freer f n n at (same_levels None n)) (outcome_C free s free_usable f n at) long_C

    pub term_within : Within (at + 1) (length s) (term_by f w n s at)
    term_within = ends at (term_by f w n s at) (term_by f free n s at) (follows-T w free freer f n n at (same_levels None n)) (outcome-T free s free_usable f n at) long-T

    pub factor_within : Within (at + 1) (length s) (factor_by f w n s at)
    factor_within = ends at (factor_by f w n s at) (factor_by f free n s at) (follows_F w free freer f n n at (same_levels None n)) (outcome_F free s free_usable f n at) long_F
