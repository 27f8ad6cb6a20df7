-- Lists of judging and renumbering calls, the composed permutations beside them, and what is claimed of every list (01, "Renumbering labels").
-- Assumes nothing.
use Rattle.std.specs.Prelude.{◌≡◌, Bool, false, ◌&&◌, cond, List, [], ◌∷◌, ◌++◌, ℕ, eqb, take, drop}
use Rattle.number.specs.Number.{splice}
use Rattle.number.specs.Reader.{Out, stop, next}
use Rattle.permutation.specs.Permutation.{composite, fits}
use Rattle.model.specs.Limits.{most_addresses}
use Rattle.model.specs.Case.{Case}
use Rattle.model.specs.Record.{read}
use Rattle.model.specs.Written.{record_of}
use Rattle.model.specs.Renumber.{renumber, moved}
use Rattle.model.specs.Answers.{Answer, refusal, Stored, room, judge, judge_case, renumber_record, renumber_case, answer_of}

-- A call of the list. behind are the bytes that lie behind the record it is handed; the calls that take a case are handed
-- the case read from the record
pub data Call : Type 0 where
  judging : (model : ℕ) (behind : List ℕ) → Call
  renumbering : (q r : ℕ) (behind buffer : List ℕ) (at : ℕ) → Call
  judging_case : (model : ℕ) → Call
  renumbering_case : (q r : ℕ) → Call

-- What a call gives: its answer; of a renumbering also whether it was accepted, and its buffer afterwards or its case
pub data Outcome : Type 0 where
  judged : Answer → Outcome
  renumbered : Answer → (accepted : Bool) → (buffer : List ℕ) → Outcome
  renumbered_case : Answer → Out Case → Outcome

-- a call on the case read from s
abbrev pub on_case : Out Case → (Case → Outcome) → Outcome
on_case (stop x p) f = judged (refusal x p)
on_case (next c i) f = f c

abbrev pub stored : Stored → Outcome
stored w = renumbered w.answer (eqb w.answer.number 0) w.buffer

abbrev pub given : Out Case → Outcome
given o = renumbered_case (answer_of o) o

-- a call on the record s
abbrev pub outcome : List ℕ → Call → Outcome
outcome s (judging model behind) = judged (judge model (s ++ behind))
outcome s (renumbering q r behind buffer at) = stored (renumber_record q r (s ++ behind) buffer at)
outcome s (judging_case model) = on_case (read s) (λ c. judged (judge_case model c))
outcome s (renumbering_case q r) = on_case (read s) (λ c. given (renumber_case q r c))

-- the record as an accepted renumbering wrote it, or else s
abbrev pub latest : List ℕ → ℕ → Stored → List ℕ
latest s at w = cond (eqb w.answer.number 0) (take w.answer.length (drop at w.buffer)) s

-- the record that the next call is handed: only a renumbering into a buffer writes one
abbrev pub following : List ℕ → Call → List ℕ
following s (judging model behind) = s
following s (renumbering q r behind buffer at) = latest s at (renumber_record q r (s ++ behind) buffer at)
following s (judging_case model) = s
following s (renumbering_case q r) = s

-- what the calls give, each on the record as the last accepted renumbering wrote it
unfoldable pub outcomes : List ℕ → List Call → List Outcome
outcomes s [] = []
outcomes s (x ∷ xs) = outcome s x ∷ outcomes (following s x) xs

-- the record after the calls
unfoldable pub record_after : List ℕ → List Call → List ℕ
record_after s [] = s
record_after s (x ∷ xs) = record_after (following s x) xs

-- The permutations composed so far (01's "plain book"): T for threads, A for addresses
pub record Composed : Type 0 where
  pub T : ℕ
  pub A : ℕ

abbrev pub start : Composed
start = record { T = 0; A = 0 }

abbrev pub compose : Composed → (q r : ℕ) → Composed
compose b q r = record { T = composite b.T q; A = composite b.A r }

-- 01: "A renumbering by q and r is accepted .. exactly when", by the starting record's n, m and length alone
abbrev pub accepts : (n m size : ℕ) → Call → Bool
accepts n m size (judging model behind) = false
accepts n m size (renumbering q r behind buffer at) = fits q n && fits r m && room size buffer at
accepts n m size (judging_case model) = false
accepts n m size (renumbering_case q r) = false

abbrev pub composed : Composed → Call → Composed
composed b (judging model behind) = b
composed b (renumbering q r behind buffer at) = compose b q r
composed b (judging_case model) = b
composed b (renumbering_case q r) = b

-- 01: "A refused renumbering (5 or 6) changes neither, and no judging does"
abbrev pub entered : (n m size : ℕ) → Composed → Call → Composed
entered n m size b x = cond (accepts n m size x) (composed b x) b

unfoldable pub composed_after : (n m size : ℕ) → Composed → List Call → Composed
composed_after n m size b [] = b
composed_after n m size b (x ∷ xs) = composed_after n m size (entered n m size b x) xs

-- the answer whose value at address x stands at the address to which A sends x, for all four
abbrev pub moved_answer : (A : ℕ) → Answer → Answer
moved_answer A w = record { number = w.number; place = w.place; length = w.length; finals = moved A most_addresses 0 w.finals }

-- what the renumbering rule makes of the case c, and of its record
abbrev pub ruled : Case → Composed → Case
ruled c b = renumber b.T b.A c

-- what is promised of a call at b: s is the starting record and c the case read from it, size bytes long
abbrev pub promised : List ℕ → Case → ℕ → Composed → Call → Outcome
promised s c size b (judging model behind) = judged (moved_answer b.A (judge model (s ++ behind)))
promised s c size b (renumbering q r behind buffer at) =
    let yes = fits q c.n && fits r c.m && room size buffer at in
    renumbered (renumber_record q r (s ++ behind) buffer at).answer yes (cond yes (splice buffer at (record_of (ruled c (compose b q r)))) buffer)
promised s c size b (judging_case model) = judged (moved_answer b.A (judge_case model c))
promised s c size b (renumbering_case q r) =
    renumbered_case (answer_of (renumber_case q r c)) (cond (fits q c.n && fits r c.m) (next (ruled c (compose b q r)) size) (stop 5 0))

unfoldable pub promises : List ℕ → Case → ℕ → Composed → List Call → List Outcome
promises s c size b [] = []
promises s c size b (x ∷ xs) = promised s c size b x ∷ promises s c size (entered c.n c.m size b x) xs

-- The claim about a whole list of calls that starts from the first size bytes, where reading the bytes gives c and size
pub record Claim (bytes : List ℕ) (c : Case) (size : ℕ) (xs : List Call) : Type 0 where
  -- 01: "After it the record is, byte for byte, what the renumbering rule makes of the starting record by T and A"
  pub lasts : record_after (take size bytes) xs ≡ record_of (ruled c (composed_after c.n c.m size start xs))
  -- 01: "Each call gives the number, place, length and finals that the same call gives for the starting record, except that
  -- the finals of a judging are moved"; "An accepted renumbering leaves in its buffer, from the given place, the rule's record
  -- by the new T and A, and every other byte as it was; a refused one leaves every byte"
  pub gives : outcomes (take size bytes) xs ≡ promises (take size bytes) c size start xs
