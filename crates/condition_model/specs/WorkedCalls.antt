-- Worked calls: conditions about records and cases.
-- Assumes nothing.
use Rattle.std.specs.Prelude.{ℕ, Bool, true, false, ◌&&◌, List, [], ◌∷◌, take}
use Prim.Native.String.{String, ◌++◌}
use Rattle.std.specs.Bool.{beq}
use Rattle.model.specs.Case.{Case}
use Rattle.model.specs.Answers.{Answer, refusal}
use Rattle.model.specs.Worked.{one, small_named, store_named, same_answer, accepted, broken}
use Rattle.condition_model.specs.Answers.{ConditionAnswer, condition, condition_case}
use Rattle.condition_model.specs.Worked.{bytes, times}

pub data Asked : Type 0 where
  -- a record and a text under a model: the answer, and whether the condition holds
  of : (model : ℕ) (s : List ℕ) (text : String) (answer : Answer) (holds : Bool) → Asked
  -- a case that is handed without bytes
  of_case : (model : ℕ) (c : Case) (text : String) (answer : Answer) (holds : Bool) → Asked

abbrev pub same_condition : ConditionAnswer → Answer → Bool → Bool
same_condition w a b = same_answer w.answer a && beq w.holds b

unfoldable pub asked_holds : Asked → Bool
asked_holds (of model s t a b) = same_condition (condition model s (bytes t)) a b
asked_holds (of_case model c t a b) = same_condition (condition_case model c (bytes t)) a b

unfoldable pub worked_calls : List Asked → Bool
worked_calls [] = true
worked_calls (x ∷ xs) = asked_holds x && worked_calls xs

-- 01's small record: thread 0 stores 1 and loads 1
abbrev pub small : List ℕ
small = small_named (97 ∷ [])

-- the same with no pairs: rule 12
abbrev pub unordered : List ℕ
unordered = 1 ∷ 1 ∷ 1 ∷ 0 ∷ 2 ∷ 1 ∷ 0 ∷ 0 ∷ 1 ∷ 0 ∷ 0 ∷ 0 ∷ 1 ∷ 0 ∷ 0 ∷ 1 ∷ 97 ∷ []

-- 01's Dekker: accepted under PPCw, rule 16 under PPCs
abbrev pub dekker : List ℕ
dekker =
    1 ∷ 2 ∷ 2 ∷ 0 ∷ 0 ∷
    6 ∷ 1 ∷ 0 ∷ 0 ∷ 1 ∷ 2 ∷ 0 ∷ 0 ∷ 0 ∷ 1 ∷ 0 ∷ 1 ∷ 1 ∷ 1 ∷ 1 ∷ 2 ∷ 1 ∷ 0 ∷ 1 ∷ 0 ∷ 0 ∷
    0 ∷ 3 ∷
    10 ∷ 0 ∷ 1 ∷ 0 ∷ 2 ∷ 0 ∷ 3 ∷ 0 ∷ 5 ∷ 1 ∷ 2 ∷ 1 ∷ 3 ∷ 1 ∷ 5 ∷ 2 ∷ 3 ∷ 2 ∷ 5 ∷ 3 ∷ 5 ∷
    10 ∷ 0 ∷ 2 ∷ 3 ∷ 0 ∷ 3 ∷ 2 ∷ 3 ∷ 4 ∷ 3 ∷ 5 ∷ 4 ∷ 0 ∷ 4 ∷ 2 ∷ 4 ∷ 5 ∷ 5 ∷ 0 ∷ 5 ∷ 2 ∷
    6 ∷ 68 ∷ 101 ∷ 107 ∷ 107 ∷ 101 ∷ 114 ∷ []

-- a case of one store of the value v, and one of no event whose address holds v at first
abbrev pub storing : (v : ℕ) → Case
storing v = one 1 1 1 0 1 1 0 0 v (0 ∷ []) []

abbrev pub holding : (v : ℕ) → Case
holding v = one 1 1 1 v 0 0 0 0 0 [] []

-- a text of 513 bytes
abbrev pub too_long : String
too_long = times 509 " " ++ "m0=1"

unfoldable pub calls : List Asked
calls =
    of 0 small "m0=1" (accepted 19 (1 ∷ 0 ∷ 0 ∷ 0 ∷ [])) true
    ∷ of 1 small "m0=1" (accepted 19 (1 ∷ 0 ∷ 0 ∷ 0 ∷ [])) true
    ∷ of 1 small "m0=0" (accepted 19 (1 ∷ 0 ∷ 0 ∷ 0 ∷ [])) false
    ∷ of 1 small "e1=1 /\\ ~m0=0" (accepted 19 (1 ∷ 0 ∷ 0 ∷ 0 ∷ [])) true
    ∷ of 1 small "e1=0 \\/ m0=2" (accepted 19 (1 ∷ 0 ∷ 0 ∷ 0 ∷ [])) false
    ∷ of 1 small "m0=1 \\/ m0=0 /\\ m0=0" (accepted 19 (1 ∷ 0 ∷ 0 ∷ 0 ∷ [])) true
    ∷ of 1 small "(m0=1 \\/ m0=0) /\\ m0=0" (accepted 19 (1 ∷ 0 ∷ 0 ∷ 0 ∷ [])) false
    -- a store, no event, no address, no value, a needless zero, outside the grammar, too deep, too long
    ∷ of 1 small "e0=1" (refusal 3 1) false
    ∷ of 1 small "e2=1" (refusal 3 1) false
    ∷ of 1 small "m1=0" (refusal 3 1) false
    ∷ of 1 small "m0=4294967296" (refusal 3 3) false
    ∷ of 1 small "m0=01" (refusal 21 3) false
    ∷ of 1 small "m0=1 x" (refusal 21 5) false
    ∷ of 1 small "" (refusal 21 0) false
    ∷ of 1 small (times 17 "~" ++ "m0=1") (refusal 22 16) false
    ∷ of 1 small too_long (refusal 3 512) false
    -- the outcome that Dekker's test asks about
    ∷ of 0 dekker "e2=0 /\\ e5=0" (accepted 77 (1 ∷ 1 ∷ 0 ∷ 0 ∷ [])) true
    ∷ of 0 dekker "~(m0=1 /\\ m1=1)" (accepted 77 (1 ∷ 1 ∷ 0 ∷ 0 ∷ [])) false
    ∷ of 0 dekker "e1=0" (refusal 3 1) false
    ∷ of 0 dekker "m2=0" (refusal 3 1) false
    -- a case that isn't accepted has its own number first, whatever the text
    ∷ of 1 dekker "e2=0 /\\ e5=0" (broken 16 77) false
    ∷ of 1 dekker "x" (broken 16 77) false
    ∷ of 1 dekker too_long (broken 16 77) false
    ∷ of 0 unordered "m0=1" (broken 12 17) false
    ∷ of 0 unordered "m9=1" (broken 12 17) false
    -- the record's refusals before that, and the model before them
    ∷ of 1 [] "" (refusal 1 0) false
    ∷ of 1 (take 7 small) "m0=1" (refusal 1 7) false
    ∷ of 1 (3 ∷ []) "x" (refusal 3 0) false
    ∷ of 1 (small_named (10 ∷ [])) "m0=1" (refusal 23 18) false
    ∷ of 2 small "m0=1" (refusal 7 0) false
    ∷ of 2 [] "" (refusal 7 0) false
    ∷ of 18446744073709551615 unordered "x" (refusal 7 0) false
    -- cases
    ∷ of_case 0 (storing 1) "m0=1" (accepted 12 (1 ∷ 0 ∷ 0 ∷ 0 ∷ [])) true
    ∷ of_case 1 (storing 4294967295) "m0=4294967295" (accepted 16 (4294967295 ∷ 0 ∷ 0 ∷ 0 ∷ [])) true
    ∷ of_case 1 (storing 4294967295) "m0=4294967294" (accepted 16 (4294967295 ∷ 0 ∷ 0 ∷ 0 ∷ [])) false
    ∷ of_case 1 (holding 7) "m0=7" (accepted 7 (7 ∷ 0 ∷ 0 ∷ 0 ∷ [])) true
    ∷ of_case 1 (holding 7) "e0=7" (refusal 3 1) false
    ∷ of_case 1 (storing 4294967296) "m0=1" (refusal 3 0) false
    ∷ of_case 1 (store_named (200 ∷ [])) "x" (refusal 23 0) false
    ∷ of_case 2 (storing 4294967296) "x" (refusal 7 0) false
    ∷ []
