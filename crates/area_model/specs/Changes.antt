-- Any list of appends and repairs, each with any number of stores allowed (02 (v)).
-- Assumes nothing.
use Rattle.std.specs.Prelude.{ℕ, ◌+◌, cond, ◌&&◌, List, [], ◌∷◌, ◌++◌, eqb, take}
use Rattle.number.specs.Reader.{Out, stop, next}
use Rattle.model.specs.Case.{Case}
use Rattle.model.specs.Record.{read}
use Rattle.model.specs.Answers.{Answer, Stored}
use Rattle.area_model.specs.Area.{append, repair}

-- a call that stores in an area, and how many stores it is allowed
pub data Change : Type 0 where
  appends : (bytes : List ℕ) (allowed : ℕ) → Change
  repairs : (allowed : ℕ) → Change

-- the answer, and the area afterwards
abbrev pub change : Change → List ℕ → Stored
change (appends bytes allowed) area = append area bytes allowed
change (repairs allowed) area = repair area allowed

-- the new record if its flag was stored, otherwise none. The flag is the last of the stores (`flag_last`), one more than the record has bytes
abbrev pub flagged : (bytes : List ℕ) → Answer → Out Case → List (List ℕ)
flagged bytes a (stop x p) = []
flagged bytes a (next c i) = cond (eqb a.number 0 && eqb a.length (i + 1)) (take i bytes ∷ []) []

-- the same of a change, by its answer
abbrev pub flag_stored : Change → Answer → List (List ℕ)
flag_stored (appends bytes allowed) a = flagged bytes a (read bytes)
flag_stored (repairs allowed) a = []

-- an area after these changes, one after the other
unfoldable pub area_after : List ℕ → List Change → List ℕ
area_after area [] = area
area_after area (x ∷ xs) = area_after (change x area).buffer xs

-- the records whose flag was stored, in order
unfoldable pub flags_stored : List ℕ → List Change → List (List ℕ)
flags_stored area [] = []
flags_stored area (x ∷ xs) = flag_stored x (change x area).answer ++ flags_stored (change x area).buffer xs
