-- One name for a class (02 (vii)): the representative of a case, and the lesser of two records. A class is 02's term for a case and all
-- its renumberings.
-- Assumes nothing.
use Rattle.std.specs.Prelude.{ℕ, ◌≡◌, cond, List, [], ◌∷◌, T, eqb, length, take}
use Rattle.finite.specs.Lists.{table, each}
use Rattle.number.specs.Reader.{Out, stop, next}
use Rattle.permutation.specs.Permutation.{permutations, fits}
use Rattle.model.specs.Case.{Case}
use Rattle.model.specs.Record.{read}
use Rattle.model.specs.Written.{record_of}
use Rattle.model.specs.Renumber.{renumber, fitting}
use Rattle.model.specs.Answers.{Stored, put_out, handed}
use Rattle.classes.specs.Order.{at_most}

-- d is a renumbering of c: the renumbering rule makes it of c by permutations that fit
pub record Renumbering (c d : Case) : Type 0 where
  pub q : ℕ
  pub r : ℕ
  pub threads : T (fits q c.n)
  pub addresses : T (fits r c.m)
  pub is : d ≡ renumber q r c

abbrev pub below : ℕ → List ℕ
below n = table 0 n (λ x. x)

-- "all its renumberings": by each permutation q of threads and each permutation r of addresses that fit
unfoldable pub renumberings : Case → List Case
renumberings c =
    each (λ q. each (λ r. cond (fitting q r c) (renumber q r c ∷ []) []) (below permutations)) (below permutations)

-- of two cases the one with the lesser record, the first if the records are equal
abbrev pub lesser_case : Case → Case → Case
lesser_case c d = cond (at_most (record_of c) (record_of d)) c d

-- of c and the others
unfoldable pub least_of : Case → List Case → Case
least_of c [] = c
least_of c (d ∷ ds) = least_of (lesser_case c d) ds

-- "Give each record its representative: the least bytes, compared byte by byte, among all its renumberings": the case of these bytes
unfoldable pub representative : Case → Case
representative c = least_of c (renumberings c)

-- The calls. Of a record that is read, or of a case that is handed without fault; else its refusal
abbrev pub representative_out : Out Case → Out Case
representative_out (stop x p) = stop x p
representative_out (next c i) = next (representative c) (length (record_of (representative c)))

-- into a lent buffer from a place on: 1 to 4 or 23 with the place; "No room is 6"; or 0 and the length
unfoldable pub representative_record : List ℕ → List ℕ → ℕ → Stored
representative_record s buffer at = put_out (representative_out (read s)) buffer at

-- of a case handed without bytes: 3, 4 or 23 with place 0; or 0, the length of its record and the case
unfoldable pub representative_case : Case → Out Case
representative_case c = representative_out (handed c)

-- Which of two records is the lesser, 1 or 2, and how many bytes it has; 0 and 0 if either can't be read
pub record Choice : Type 0 where
  pub which : ℕ
  pub length : ℕ

abbrev pub no_choice : Choice
no_choice = record { which = 0; length = 0 }

-- by what reading them answers: "bytes behind them left aside"; "the first if they are equal"
abbrev pub choice_read : List ℕ → List ℕ → Out Case → Out Case → Choice
choice_read s t (stop x p) o = no_choice
choice_read s t (next c i) (stop x p) = no_choice
choice_read s t (next c i) (next d j) = cond (at_most (take i s) (take j t)) (record { which = 1; length = i }) (record { which = 2; length = j })

unfoldable pub choice : List ℕ → List ℕ → Choice
choice s t = choice_read s t (read s) (read t)

-- the bytes that a choice names
unfoldable pub chosen : List ℕ → List ℕ → Choice → List ℕ
chosen s t x = cond (eqb x.which 1) (take x.length s) (take x.length t)

-- "Of two readable records .. the comparison hands back the lesser one itself"; "if either can't be read, an empty part"
unfoldable pub lesser : List ℕ → List ℕ → List ℕ
lesser s t = chosen s t (choice s t)
