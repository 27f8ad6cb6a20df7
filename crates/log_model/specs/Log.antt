-- A log: records back to back (02 (iii)), judged under PPCs.
-- Assumes nothing.
use Rattle.std.specs.Prelude.{ℕ, zero, suc, ◌+◌, cond, List, [], ◌∷◌, length, drop}
use Rattle.number.specs.Reader.{Out, stop, next}
use Rattle.model.specs.Case.{Case}
use Rattle.model.specs.Rules.{PPCs, verdict}
use Rattle.model.specs.Record.{read}
use Rattle.tally.specs.declared.Tally.{Tally}
use Rattle.tally.specs.Tally.{grown, may_grow}

-- how a log ends: the refusal and its place, "0 and 0 if none"
pub record Ending : Type 0 where
  pub number : ℕ
  pub place : ℕ

-- "an end between records is no fault"
abbrev pub no_fault : Ending
no_fault = record { number = 0; place = 0 }

-- a count would grow past its most: 01 gives "nothing more" beside 6
abbrev pub count_full : Ending
count_full = record { number = 6; place = 0 }

-- the list of verdicts of a whole log, and how it ends
pub record Log : Type 0 where
  pub verdicts : List ℕ
  pub ending : Ending

-- no record is judged any more
abbrev pub ends_with : Ending → Log
ends_with e = record { verdicts = []; ending = e }

-- one more verdict in front
abbrev pub before : ℕ → Log → Log
before v l = record { verdicts = v ∷ l.verdicts; ending = l.ending }

-- by what reading answers at a place of the log: "The first record refused by 1 to 4 ends the log, with its place from the log's
-- start", and 23 as they do (02 (xi)); else its verdict stands before those of the log behind it
abbrev pub by_reading : (place : ℕ) → (behind : ℕ → Log) → Out Case → Log
by_reading place behind (stop x p) = ends_with (record { number = x; place = place + p })
by_reading place behind (next c i) = before (verdict c PPCs) (behind i)

-- the log of the bytes s, which begin at that place, by as much fuel as there are bytes, since no record is empty
unfoldable pub log_by : (fuel place : ℕ) → List ℕ → Log
log_by zero place s = ends_with no_fault
log_by (suc j) place [] = ends_with no_fault
log_by (suc j) place (b ∷ s) = by_reading place (λ i. log_by j (place + i) (drop i (b ∷ s))) (read (b ∷ s))

-- the log of the bytes s
unfoldable pub log_from : (place : ℕ) → List ℕ → Log
log_from place s = log_by (length s) place s

-- a tally, and how the log ended
pub record Summary : Type 0 where
  pub tally : Tally
  pub ending : Ending

-- verdicts added to a tally one after the other: "A count at 4,294,967,295 that would grow is 6: the tally stays, the log ends and that
-- record is left out"
unfoldable pub tallied : Tally → List ℕ → Ending → Summary
tallied t [] e = record { tally = t; ending = e }
tallied t (v ∷ vs) e = cond (may_grow t v) (tallied (grown t v) vs e) (record { tally = t; ending = count_full })

-- a log's verdicts added to a tally
abbrev pub log_tallied : Tally → Log → Summary
log_tallied t l = tallied t l.verdicts l.ending

-- a whole log, its records added to the tally t
unfoldable pub summary : Tally → List ℕ → Summary
summary t s = log_tallied t (log_from 0 s)
