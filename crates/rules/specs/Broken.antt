-- The rules that a case may break, by number.
-- Assumes nothing.
use Rattle.std.specs.Prelude.{ℕ, ⊤, Result, Ok, Err}
use Rattle.rules.specs.declared.Rule.{Rule}
use Rattle.rules.specs.declared.Rule.TheVariants.{StrictOrder, OwnOrder, ProgramOrder, Coherence, EarlierStore, LatestStore, Barrier, CumulativeBarrier}

-- 01: the rules' numbers
abbrev pub rule_number : Rule → ℕ
rule_number StrictOrder = 11
rule_number OwnOrder = 12
rule_number ProgramOrder = 13
rule_number Coherence = 14
rule_number EarlierStore = 15
rule_number LatestStore = 16
rule_number Barrier = 17
rule_number CumulativeBarrier = 18

-- 0 where no rule is broken, or else the number of the one given
abbrev pub verdict_number : Result ⊤ Rule → ℕ
verdict_number (Ok _) = 0
verdict_number (Err rule) = rule_number rule
