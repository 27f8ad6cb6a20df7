-- Every struct is refused as the reader would for its first bad field, whatever lies in its spare room.
-- Assumes nothing.
use Prim.Native.Nat.{ℕ}
use mathlib.Core.Path.{◌≡◌}
use mathlib.Core.List.{List, ◌++◌}
use Rattle.model.specs.Record.{read}
use Rattle.model.specs.Written.{record_of}
use Rattle.model.specs.Fault.{fault}
use Rattle.model.specs.Answers.{answer_of}
use Rattle.model.specs.Fits.{Stated, as_fault}
use Rattle.laws.proofs.FirstBadField.{first_bad_field, first_bad_field_any}
use Rattle.case.specs.declared.Case.{Case as Held}
use Rattle.case.specs.Held.{case_of}
use Rattle.case.proofs.Shape.{shaped}

-- by the definition `fault` that the contracts of `write`, `judge_case` and `renumber_case` cite, and `read`, which that of `read` does
pub struct_first_bad_field : (c : Held) (t : List ℕ) → as_fault (answer_of (read (record_of (case_of c) ++ t))).number ≡ fault (case_of c)
struct_first_bad_field c = first_bad_field_any (case_of c) (shaped c)

-- where no count has more groups than there may be
pub struct_first_bad_field_stated : (c : Held) → Stated (case_of c) → (t : List ℕ) → (answer_of (read (record_of (case_of c) ++ t))).number ≡ fault (case_of c)
struct_first_bad_field_stated c = first_bad_field (case_of c) (shaped c)
