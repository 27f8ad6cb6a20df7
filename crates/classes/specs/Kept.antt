-- What a list of judging and renumbering calls never leaves: the class of the record that it starts from.
-- Assumes nothing.
use Rattle.std.specs.Prelude.{ℕ, ◌≡◌, List, take}
use Rattle.finite.specs.Lists.{All}
use Rattle.number.specs.Reader.{stop, next}
use Rattle.model.specs.Case.{Case}
use Rattle.model.specs.Written.{record_of}
use Rattle.model.specs.Calls.{Call, Outcome, judged, renumbered, renumbered_case, outcomes, record_after}
use Rattle.classes.specs.Representative.{representative, Renumbering}

-- the case that a call hands back is of c's class; other calls hand back none
abbrev pub InClass : Case → Outcome → Type 0
InClass c (judged a) = Unit {0}
InClass c (renumbered a accepted buffer) = Unit {0}
InClass c (renumbered_case a (stop x p)) = Unit {0}
InClass c (renumbered_case a (next d i)) = Renumbering c d

-- of a list of calls that starts from the first size bytes, where reading the bytes gives c and size: the record after it, which is the
-- last that a call wrote into a buffer, is of c's class and has its representative, and so is each case that a call hands back
pub record ClassKept (bytes : List ℕ) (c : Case) (size : ℕ) (xs : List Call) : Type 0 where
  pub last : Case
  pub lasts : record_after (take size bytes) xs ≡ record_of last
  pub renumbering : Renumbering c last
  pub same : representative last ≡ representative c
  pub cases : All (InClass c) (outcomes (take size bytes) xs)
