-- An equation nested under `~` and brackets in every mixture (02 (x)).
-- Assumes nothing.
use Rattle.std.specs.Prelude.{ℕ, ◌+◌, Bool, true, false, List, [], ◌∷◌, ◌++◌}
use Rattle.condition_model.specs.Grammar.{Condition.a_term, Term.a_factor, Factor, Factor.negation, Factor.bracketed, Factor.memory_is, opening, closing, zero_digit, equals, letter_m, tilde}

-- `m0=1` under a `~` for each true and a bracket for each false, the first outermost
unfoldable pub mixed : List Bool → Factor
mixed [] = memory_is 0 1
mixed (true ∷ l) = negation (mixed l)
mixed (false ∷ l) = bracketed (a_term (a_factor (mixed l)))

-- its bytes, without spaces
unfoldable pub text : List Bool → List ℕ
text [] = letter_m ∷ zero_digit ∷ equals ∷ (zero_digit + 1) ∷ []
text (true ∷ l) = tilde ∷ text l
text (false ∷ l) = opening ∷ (text l ++ (closing ∷ []))
