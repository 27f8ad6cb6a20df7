-- What the code's answers tell, and what the lists that are lent to it hold.
-- Assumes nothing.
use Rattle.std.specs.Prelude.{ℕ, ◌+◌, ◌*◌, ◌-◌, ◌≤◌, ◌≡◌, Bool, true, false, cond, ◌&&◌, List, eqb, leb, ltb, length, get_or, drop, Option, None, Some, Result, Ok, Err}
use Rattle.number.specs.Reader.{Out, stop, next, Reader, give, onward, tested}
use Rattle.model.specs.Limits.{most_value}
use Rattle.model.specs.Case.{load}
use Rattle.condition_model.specs.Grammar.{closing, Ranges}
use Rattle.condition_model.specs.Reader.{◌>>◌, skip, pass, sign, digits, value_by, label, valued, if_byte, condition_by, term_by, factor_by}
use Rattle.condition_model.specs.Truth.{truth_c, truth_t, truth_f}
use Rattle.condition_reader.specs.declared.TextFault.{TextFault}
use Rattle.condition_reader.specs.declared.TextFault.TheVariants.{Range, Grammar, Depth}
use Rattle.condition_reader.specs.declared.TextRefusal.{TextRefusal}

-- the same answer, with a function of what was read
abbrev pub map_out : {A B : Type 0} → (A → B) → Out A → Out B
map_out f (stop x p) = stop x p
map_out f (next a p) = next (f a) p

-- 02 (x): the number of a fault
abbrev pub text_number : TextFault → ℕ
text_number Range = 3
text_number Grammar = 21
text_number Depth = 22

abbrev pub refused : {A : Type 0} → TextRefusal → Out A
refused e = stop (text_number e.fault) e.place

-- what the code answers, as a reader does: what was read and the place behind it, or a refusal and its place
abbrev pub told : {A : Type 0} → Result (A × ℕ) TextRefusal → Out A
told (Ok r) = next r.0 r.1
told (Err e) = refused e

-- the same where only a place is found
abbrev pub place_told : Result ℕ TextRefusal → Out (Unit {0})
place_told (Ok p) = next tt p
place_told (Err e) = refused e

-- whether the sign stood at the place where it was looked for
abbrev pub sign_told : (at : ℕ) → Result (Option ℕ) TextRefusal → Out Bool
sign_told at (Ok None) = next false at
sign_told at (Ok (Some p)) = next true p
sign_told at (Err e) = refused e

-- the value of an address or a load
abbrev pub value_in : List ℕ → ℕ → ℕ
value_in xs i = get_or xs i 0

-- whether a number is one of an address
unfoldable pub is_address : (finals : List ℕ) → ℕ → Bool
is_address finals a = ltb a (length finals)

-- whether a number is one of a load
unfoldable pub is_load : (kinds : List ℕ) → ℕ → Bool
is_load kinds e = ltb e (length kinds) && eqb (get_or kinds e 0) load

-- whether a number may be a value
abbrev pub is_value : ℕ → Bool
is_value v = leb v most_value

-- which numbers may stand in a text, by the lists
abbrev pub held_ranges : (finals kinds : List ℕ) → Ranges
held_ranges finals kinds = record { address = is_address finals; load = is_load kinds; value = is_value }

-- whether a number is one of an address, or of a load
abbrev pub is_named : (memory : Bool) → (finals kinds : List ℕ) → ℕ → Bool
is_named true finals kinds = is_address finals
is_named false finals kinds = is_load kinds

-- the values of addresses, or of events
abbrev pub values_by : (memory : Bool) → (finals values : List ℕ) → List ℕ
values_by true finals values = finals
values_by false finals values = values

-- the value of the address or load that has the number, if one has
abbrev pub held_at : (memory : Bool) → (finals kinds values : List ℕ) → ℕ → Option ℕ
held_at m finals kinds values n = cond (is_named m finals kinds n) (Some (value_in (values_by m finals values) n)) None

-- addresses and events are numbers that a text may hold, and each event has a value
pub record Small (finals kinds values : List ℕ) : Type 0 where
  pub addresses : length finals ≤ most_value + 1
  pub events : length kinds ≤ most_value + 1
  pub valued : length kinds ≤ length values

-- the value of the digits at a place, where it is in range
unfoldable pub digits_in : Reader ℕ
digits_in s at = tested 3 is_value at (next (value_by 0 (digits (drop at s))) (at + length (digits (drop at s))))

-- whether the value that an equation names is the one held
unfoldable pub equation_truth : (ℕ → Bool) → (held : List ℕ) → Reader Bool
equation_truth test held s at = onward (λ n p. map_out (eqb (value_in held n)) (valued is_value s p)) (label test s at)

-- whether the sign of the bytes x and y stands at a place
unfoldable pub sign_at : (x y : ℕ) → Reader Bool
sign_at x y = if_byte x (pass >> (sign y >> (skip >> give true))) (give false)

-- what was read in a bracket, and its end
unfoldable pub closed_by : List ℕ → Out Bool → Out Bool
closed_by s o = onward (λ b p. (sign closing >> (skip >> give b)) s p) o

-- the phrases whose readers call each other: terms joined by `\/`, factors joined by `/\`, and one factor
pub data Phrase : Type 0 where
  disjunction : Phrase
  conjunction : Phrase
  single : Phrase

-- the truth of what stands at a place where n levels are left, by the model's fuel
abbrev pub truth_by : Phrase → (finals kinds values : List ℕ) → (fuel n : ℕ) → Reader Bool
truth_by disjunction finals kinds values f n s at = map_out (truth_c (value_in finals) (value_in values)) (condition_by f (held_ranges finals kinds) n s at)
truth_by conjunction finals kinds values f n s at = map_out (truth_t (value_in finals) (value_in values)) (term_by f (held_ranges finals kinds) n s at)
truth_by single finals kinds values f n s at = map_out (truth_f (value_in finals) (value_in values)) (factor_by f (held_ranges finals kinds) n s at)

-- the fuel that a reader needs beyond three for each unread byte
abbrev pub rank : Phrase → ℕ
rank disjunction = 3
rank conjunction = 2
rank single = 1

-- an answer that is the model's by any fuel that is enough
pub record ReadAs (k : Phrase) (finals kinds values : List ℕ) (n : ℕ) (s : List ℕ) (at : ℕ) (r : Out Bool) : Type 0 where
  pub same : (f : ℕ) → 3 * (length s - at) + rank k ≤ f → r ≡ truth_by k finals kinds values f n s at
