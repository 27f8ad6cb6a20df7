-- The tally of a log: 02 (iii): "records, accepted, one count per rule".
-- Assumes nothing.
use Rattle.std.specs.Prelude.{ℕ, zero, suc, ◌+◌, ◌-◌, Bool, cond, ◌&&◌, ◌||◌, List, [], ◌∷◌, eqb, ltb, length, get_or, set, replicate, Result, Ok, Err}
use Rattle.finite.specs.Tests.{tick}
use Rattle.finite.specs.Lists.{table}
use Rattle.model.specs.Limits.{between}
use Rattle.model.specs.Rules.{first_rule, last_rule}
use Rattle.tally.specs.declared.Tally.{Tally}
use Rattle.tally.specs.declared.NotAdded.{NotAdded}
use Rattle.tally.specs.declared.NotAdded.TheVariants.{NoVerdict, Full}

-- 02 (iii): "A count at 4,294,967,295 that would grow is 6"
abbrev pub most_count : ℕ
most_count = 4294967295

-- how many rules there are
abbrev pub rules : ℕ
rules = last_rule + 1 - first_rule

-- the numbers that judging a readable record gives: 0 and the rules'
abbrev pub is_verdict : ℕ → Bool
is_verdict v = eqb v 0 || between first_rule last_rule v

-- how many of the verdicts are v
unfoldable pub occurs : ℕ → List ℕ → ℕ
occurs v [] = 0
occurs v (u ∷ vs) = tick (eqb u v) + occurs v vs

-- 02 (iii): "what the whole log's list of verdicts gives"
unfoldable pub tally_of : List ℕ → Tally
tally_of vs = record { records = length vs; accepted = occurs 0 vs; broken = table first_rule rules (λ v. occurs v vs) }

-- 02 (iii): "Begun at zeros"
abbrev pub zeros : Tally
zeros = record { records = 0; accepted = 0; broken = replicate rules 0 }

-- 02 (iii): "the ten counts in that order"
abbrev pub counts : Tally → List ℕ
counts t = t.records ∷ t.accepted ∷ t.broken

-- the count of a verdict
abbrev pub count_of : Tally → ℕ → ℕ
count_of t zero = t.accepted
count_of t (suc v) = get_or t.broken (suc v - first_rule) 0

-- the tally with one more record of that verdict
unfoldable pub grown : Tally → ℕ → Tally
grown t zero = record { records = t.records + 1; accepted = t.accepted + 1; broken = t.broken }
grown t (suc v) = record {
  records = t.records + 1;
  accepted = t.accepted;
  broken = set t.broken (suc v - first_rule) (get_or t.broken (suc v - first_rule) 0 + 1);
}

-- neither of the counts that would grow is at its most
unfoldable pub may_grow : Tally → ℕ → Bool
may_grow t v = ltb t.records most_count && ltb (count_of t v) most_count

-- a tally, and 0 if a record was added to it, else why not
pub record Addition : Type 0 where
  pub number : ℕ
  pub tally : Tally

abbrev pub number_of : NotAdded → ℕ
number_of NoVerdict = 3
number_of Full = 6

-- what the code answers: the tally with the record, or why the tally stays
abbrev pub addition_to : Tally → Result Tally NotAdded → Addition
addition_to t (Ok u) = record { number = 0; tally = u }
addition_to t (Err why) = record { number = number_of why; tally = t }

-- and where the tally was changed in its place
abbrev pub addition_left : Result (Unit {0}) NotAdded → Tally → Addition
addition_left (Ok u) t = record { number = 0; tally = t }
addition_left (Err why) t = record { number = number_of why; tally = t }

-- one record more: 0 and the tally grown; 02 (iii): 6 and "the tally stays". A number that is no verdict is outside its range: 3, and the
-- tally stays
unfoldable pub adding : Tally → (verdict : ℕ) → Addition
adding t v =
    cond (is_verdict v)
    (cond (may_grow t v) (record { number = 0; tally = grown t v }) (record { number = 6; tally = t }))
    (record { number = 3; tally = t })
