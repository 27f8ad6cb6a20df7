-- What is claimed of every area after any list of appends and repairs, each cut anywhere or not (02 (v)).
-- Assumes nothing.
use Rattle.std.specs.Prelude.{ℕ, ◌≤◌, ◌≡◌, ◌⊎◌, List, ◌++◌, length, replicate}
use Rattle.finite.specs.Lists.{All}
use Rattle.number.specs.Reader.{next}
use Rattle.model.specs.Case.{Case}
use Rattle.model.specs.Record.{read}
use Rattle.log_model.specs.Log.{Ending, no_fault}
use Rattle.area_model.specs.Area.{unused, found}
use Rattle.area_model.specs.Changes.{Change, area_after, flags_stored}

-- 02 (v): "a lent area that starts as all `FF`"
abbrev pub blank : (size : ℕ) → List ℕ
blank size = replicate size unused

-- "the log's own faults (9, 1 to 4)", and 23 (02 (xi)), at a place that is not past the end of an area of so many bytes
pub record LogFault (size : ℕ) (e : Ending) : Type 0 where
  pub number : (e.number ≡ 9) ⊎ (((1 ≤ e.number) × (e.number ≤ 4)) ⊎ (e.number ≡ 23))
  pub place : e.place ≤ size

-- an area whose log has no fault of its own
abbrev pub Faultless : List ℕ → Type 0
Faultless area = (found area).ending.number ≡ 0

-- bytes that are one record and nothing behind it
pub record OneRecord (w : List ℕ) : Type 0 where
  pub case : Case
  pub whole : read w ≡ next case (length w)

-- an area in any state, after these changes: "Found afterwards: all earlier records, and the new one exactly if its flag was stored"; its
-- log ends as before, without fault or with the same one
pub record Survives (area : List ℕ) (xs : List Change) : Type 0 where
  pub records : (found (area_after area xs)).records ≡ (found area).records ++ flags_stored area xs
  pub ending : (found (area_after area xs)).ending ≡ (found area).ending
  pub long : length (area_after area xs) ≡ length area

-- the claim about an area of so many bytes, all `FF` at first: what is found is exactly the records whose flag was stored, in order, and the
-- log ends without fault
pub record AreaClaim (size : ℕ) (xs : List Change) : Type 0 where
  pub records : (found (area_after (blank size) xs)).records ≡ flags_stored (blank size) xs
  pub ending : (found (area_after (blank size) xs)).ending ≡ no_fault
  pub readable : All OneRecord (found (area_after (blank size) xs)).records
  pub long : length (area_after (blank size) xs) ≡ size
