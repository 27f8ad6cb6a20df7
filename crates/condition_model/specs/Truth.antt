-- When a condition holds (02 (x)): "m is final memory, e a load's event number".
-- Assumes nothing.
use Rattle.std.specs.Prelude.{ℕ, Bool, not, ◌&&◌, ◌||◌, eqb, leb, ltb}
use Rattle.model.specs.Limits.{most_value}
use Rattle.model.specs.Case.{Case}
use Rattle.model.specs.Rules.{is_load, value, final}
use Rattle.permutation.specs.Permutation.{image}
use Rattle.condition_model.specs.Grammar.{Condition, Condition.a_term, Condition.or_else, Term, Term.a_factor, Term.and_also, Factor, Factor.negation, Factor.bracketed, Factor.memory_is, Factor.load_is, Ranges}

-- by the final value of each address, and the value of each load
unfoldable mutual
  pub truth_c : (finals loaded : ℕ → ℕ) → Condition → Bool
  truth_c finals loaded (a_term t) = truth_t finals loaded t
  truth_c finals loaded (or_else t c) = truth_t finals loaded t || truth_c finals loaded c

  pub truth_t : (finals loaded : ℕ → ℕ) → Term → Bool
  truth_t finals loaded (a_factor f) = truth_f finals loaded f
  truth_t finals loaded (and_also f t) = truth_f finals loaded f && truth_t finals loaded t

  pub truth_f : (finals loaded : ℕ → ℕ) → Factor → Bool
  truth_f finals loaded (negation f) = not (truth_f finals loaded f)
  truth_f finals loaded (bracketed c) = truth_c finals loaded c
  truth_f finals loaded (memory_is a v) = eqb (finals a) v
  truth_f finals loaded (load_is e v) = eqb (loaded e) v

-- in a case
abbrev pub truth : Case → Condition → Bool
truth c t = truth_c (final c) (value c) t

-- the numbers that a case has: its addresses, its loads, and values as its own may be (02 (xii))
unfoldable pub ranges : Case → Ranges
ranges c = record { address = λ a. ltb a c.m; load = is_load c; value = λ v. leb v most_value }

-- the condition with each address moved by the permutation r: what it says of a case is what it said of the case before the renumbering
unfoldable mutual
  pub moved_c : (r : ℕ) → Condition → Condition
  moved_c r (a_term t) = a_term (moved_t r t)
  moved_c r (or_else t c) = or_else (moved_t r t) (moved_c r c)

  pub moved_t : (r : ℕ) → Term → Term
  moved_t r (a_factor f) = a_factor (moved_f r f)
  moved_t r (and_also f t) = and_also (moved_f r f) (moved_t r t)

  pub moved_f : (r : ℕ) → Factor → Factor
  moved_f r (negation f) = negation (moved_f r f)
  moved_f r (bracketed c) = bracketed (moved_c r c)
  moved_f r (memory_is a v) = memory_is (image r a) v
  moved_f r (load_is e v) = load_is e v
