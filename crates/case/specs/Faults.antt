-- What a check answers, as the number of the model's fault.
-- Assumes nothing.
use Rattle.std.specs.Prelude.{ℕ, Result, Ok, Err}
use Rattle.number.specs.declared.Fault.{Fault}
use Rattle.number.specs.Reader.{number_of}

-- 0 where nothing is at fault
abbrev pub fault_number : {A : Type 0} → Result A Fault → ℕ
fault_number (Ok a) = 0
fault_number (Err f) = number_of f
